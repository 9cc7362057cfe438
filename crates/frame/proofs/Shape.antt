-- The laws of a frame's form: what each of the three tests of its later sections says of `later_formed`. Assumes nothing.
use mathlib.Core.Path.{◌≡◌}
use mathlib.Core.Bool.{false}
use mathlib.Core.List.{List}
use Prim.Native.Nat.{ℕ, ◌+◌, ◌*◌, ◌≤◌, ◌<◌}
use lib.Dec.{eqb}
use lib.ListN.{length, get_or}
use borrow.Author.Tests.{le-leb, lt-leb, eq-eqb, ne_eqb}
use Rattle.model.specs.Setup.{width}
use Rattle.model.specs.Frame.{later_formed, frame_end, payload_count_at}

module _ (epsilon : ℕ) (s : List ℕ) where
  pub second-wrong : (get_or s 4 0 ≡ 1 + 2 * epsilon → ⊥) → later_formed epsilon s ≡ false
  unfolding width
  second-wrong n2 = rw (ne_eqb (get_or s 4 0) (1 + 2 * epsilon) n2)

  module _ (h2 : get_or s 4 0 ≡ 1 + 2 * epsilon) where
    pub third-wrong : 32 < get_or s (6 + 2 * epsilon) 0 → later_formed epsilon s ≡ false
    unfolding width payload_count_at
    third-wrong n3 = rw (eq-eqb (get_or s 4 0) (1 + 2 * epsilon) h2, lt-leb (get_or s (6 + 2 * epsilon) 0) 32 n3)

    pub nothing-over : get_or s (6 + 2 * epsilon) 0 ≤ 32 → later_formed epsilon s ≡ eqb (length s) (frame_end epsilon s)
    unfolding width payload_count_at
    nothing-over h3 = rw (eq-eqb (get_or s 4 0) (1 + 2 * epsilon) h2, le-leb (get_or s (6 + 2 * epsilon) 0) 32 h3)
