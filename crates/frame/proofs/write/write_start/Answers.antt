-- Too short, or the five bytes in front.
use Rattle.std.proofs.Common.{rules}
use Rattle.frame.proofs.WriteLaws.{start-short, start-written}
use Rattle.frame.proofs.write.write_start.Goals as goal

pub returns-then-out-lt5 : goal.returns-then-out-lt5
returns-then-out-lt5 c =
    let short = start-short c.args.addresses c.args.out.now (search rules) in
    record { value = short.0; out_after = short.1 }

pub returns : goal.returns
returns c =
    let written = start-written c.args.addresses c.args.out.now c.start_frame.result c.copy_in.new.out (search rules) c.start_frame.ensures c.copy_in.ensures in
    record { value = written.0; out_after = written.1 }
