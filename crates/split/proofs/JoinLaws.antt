-- What a data field is to the tool, from the tests of the code, and what it carries.
use Rattle.std.proofs.Common.{◌≡◌, ℕ, ◌-◌, ◌<◌, ◌≤◌, true, false, List, length, take, drop, ◌∙◌, arith, length-drop, drop_of_length-le, take_all, le-ltb, lt-ltb, le-leb}
use lib.Seq.{take-nil, drop-length}
use borrow.Author.Tests.{lt-leb}
use Rattle.fields.specs.BigEndian.{number_at}
use Rattle.split.specs.Join.{is_answer, is_whole, received_as, carried_by}
use Rattle.split.specs.declared.Received.{Received}
use Rattle.split.specs.declared.Received.TheVariants.{Whole, Full, Last, Above, Other}

-- The returns of `receive`, from its tests; k is the number read
module _ (trep e : ℕ) (f : List ℕ) where
  pub other-answer : is_answer trep f ≡ false → Other ≡ received_as trep e f
  unfolding received_as
  other-answer h = rw h

  module _ (h : is_answer trep f ≡ true) where
    pub whole-answer : is_whole e (length f) ≡ true → Whole ≡ received_as trep e f
    unfolding received_as
    whole-answer w = rw (h, w)

    module _ (w : is_whole e (length f) ≡ false) where
      pub other-short : length f < 4 → Other ≡ received_as trep e f
      unfolding received_as
      other-short l = rw (h, w, lt-leb 4 (length f) l)

      module _ (k : ℕ) (l : 4 ≤ length f) (r : k ≡ number_at 2 2 f) where
        pub other-below : k < e → Other ≡ received_as trep e f
        unfolding received_as
        other-below b = rw (h, w, le-leb 4 (length f) l, ← r, lt-ltb k e b)

        pub above : e ≤ k → e < k → Above ≡ received_as trep e f
        unfolding received_as
        above b a = rw (h, w, le-leb 4 (length f) l, ← r, le-ltb k e b, lt-ltb e k a)

        pub last : e ≤ k → k ≤ e → length f < 255 → Last ≡ received_as trep e f
        unfolding received_as
        last b a s = rw (h, w, le-leb 4 (length f) l, ← r, le-ltb k e b, le-ltb e k a, lt-ltb (length f) 255 s)

        pub full : e ≤ k → k ≤ e → 255 ≤ length f → Full ≡ received_as trep e f
        unfolding received_as
        full b a s = rw (h, w, le-leb 4 (length f) l, ← r, le-ltb k e b, le-ltb e k a, le-ltb (length f) 255 s)

-- The bytes behind a header

pub behind-short : (n : ℕ) (f : List ℕ) → length f < n → take (length f - length f) (drop (length f) f) ≡ drop n f
behind-short n f h = rw (drop_of_length-le f {i = length f} (omega arith), drop_of_length-le f {i = n} (omega arith), take-nil)

pub behind-header : (n : ℕ) (f : List ℕ) → take (length f - n) (drop n f) ≡ drop n f
behind-header n f = take_all (length f - n) (drop n f) (simp length-drop (omega arith))

-- One law for each case of what a field carries
module _ (x : Received) (f r : List ℕ) where
  pub carried-whole : x ≡ Whole → r ≡ drop 2 f → r ≡ carried_by x f
  unfolding carried_by
  carried-whole e q = rw e q

  pub carried-full : x ≡ Full → r ≡ drop 4 f → r ≡ carried_by x f
  unfolding carried_by
  carried-full e q = rw e q

  pub carried-last : x ≡ Last → r ≡ drop 4 f → r ≡ carried_by x f
  unfolding carried_by
  carried-last e q = rw e q

  pub carried-above : x ≡ Above → r ≡ drop (length f) f → r ≡ carried_by x f
  unfolding carried_by
  carried-above e q = rw e (q ∙ drop-length f)

  pub carried_other : x ≡ Other → r ≡ drop (length f) f → r ≡ carried_by x f
  unfolding carried_by
  carried_other e q = rw e (q ∙ drop-length f)
