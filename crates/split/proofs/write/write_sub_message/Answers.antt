-- Refused by the place, or header and piece in one frame.
use Rattle.std.proofs.Common.{refl, rules}
use Rattle.octets.specs.Numbers.{written}
use Rattle.octets.proofs.CallLaws.{refused-number}
use Rattle.split.proofs.SplitLaws.{single-length, split-length, sub-refused, sub-kept, sub-whole, sub-piece}
use Rattle.split.proofs.write.write_sub_message.Goals as goal

ruleset all = (rules, single-length, split-length)

pub returns-in_err-piece-clause-value : goal.returns-in_err-piece-clause-value
returns-in_err-piece-clause-value c = search (rules, sub-refused, refused-number)

pub returns-in_err-piece-clause-out_after : goal.returns-in_err-piece-clause-out_after
returns-in_err-piece-clause-out_after c =
    sub-kept c.args.addresses c.args.trep c.args.message.0 c.args.data.now _ c.in_err-piece.ensures c.args.out.now _ refl (refused-number _)

pub returns-then-not-is_split : goal.returns-then-not-is_split
returns-then-not-is_split c =
    let whole = sub-whole c.args.addresses c.args.trep c.args.message.0 c.args.data.now _ c.in_ok-piece.ensures c.args.out.now
    c.write_two.new.out (written c.write_two.result) (search rules) (search all) c.write_two.ensures.value c.write_two.ensures.out_after in
    record { value = whole.0; out_after = whole.1 }

pub returns : goal.returns
returns c =
    let piece = sub-piece c.args.addresses c.args.trep c.args.message.0 c.args.data.now _ c.in_ok-piece.ensures c.to_be_bytes.result c.of.result.now c.args.out.now
    c.write_two-2.new.out (written c.write_two-2.result) c.to_be_bytes.ensures (search rules) (search all) c.of.ensures c.write_two-2.ensures.value c.write_two-2.ensures.out_after in
    record { value = piece.0; out_after = piece.1 }
