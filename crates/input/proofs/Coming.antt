-- Reading a part of a trace as it comes: so far some of its bytes are there, and it ends no earlier than they say. Assumes nothing.
use Prim.Native.Nat.{ℕ, ◌+◌, ◌-◌, ◌≤◌, ◌<◌}
use mathlib.Core.Path.{◌≡◌, refl, sym, ap, ◌∙◌}
use mathlib.Core.List.{List, ◌++◌}
use native.Mathlib.Omega.{arith}
use lib.ListN.{length, take, drop}
use lib.Seq.{take-add, drop-drop}
use borrow.Rule.Slice.PartMut.{mid_of, put_mid, mid_len, same_len_mid, take_put, drop_put}
use Rattle.input.specs.Coming.{Came}

-- `used` bytes are there, and `end` is where the part ends so far; the longest has room
pub record Coming (end_of : List ℕ → ℕ) (longest : ℕ) (before after : List ℕ) (used end : ℕ) : Type 0 where
  pub room : longest ≤ length before
  pub long : length after ≡ length before
  pub ends : end ≡ end_of (take used after)
  pub most : end ≤ longest
  pub inside : used ≤ end
  pub behind : drop used after ≡ drop used before

-- what is there belongs to the part, whatever comes
abbrev pub NeverPast : (List ℕ → ℕ) → Type 0
NeverPast end_of = (s t : List ℕ) → end_of s ≤ end_of (s ++ t)

-- none are there
pub coming-none : (end_of : List ℕ → ℕ) (longest : ℕ) (l : List ℕ) {end : ℕ} → longest ≤ length l → (end ≡ end_of (take 0 l)) × (end ≤ longest) → Coming end_of longest l l 0 end
coming-none end_of longest l h e =
    record { room = h; long = refl; ends = e.0; most = e.1; inside = omega arith; behind = refl }

drop_past : (k n : ℕ) (a b : List ℕ) → k ≤ n → drop k a ≡ drop k b → drop n a ≡ drop n b
drop_past k n a b h e =
    let whole : k + (n - k) ≡ n = omega arith in
    let past : (l : List ℕ) → drop (n - k) (drop k l) ≡ drop n l = λ l. drop-drop (n - k) k l ∙ ap (λ (m : ℕ). drop m l) whole in
    sym (past a) ∙ ap (drop (n - k)) e ∙ past b

-- all are there
pub coming-all : {end_of : List ℕ → ℕ} {longest : ℕ} {before after : List ℕ} {used end : ℕ} → Coming end_of longest before after used end → end ≤ used → Came end_of before after used
coming-all {end_of} {longest} {before} {after} {used} {end} so_far h =
    record {
      within = omega (arith, so_far.room, so_far.long, so_far.most, so_far.inside);
      inside = omega (arith, so_far.ends, so_far.inside);
      behind = drop_past used (end_of (take used after)) after before (omega (arith, so_far.ends, so_far.inside)) so_far.behind;
    }

-- and what stands behind the longest stays
pub coming-past : {end_of : List ℕ → ℕ} {longest : ℕ} {before after : List ℕ} {used end : ℕ} → Coming end_of longest before after used end → drop longest after ≡ drop longest before
coming-past {end_of} {longest} {before} {after} {used} so_far =
    drop_past used longest after before (omega (arith, so_far.inside, so_far.most)) so_far.behind

-- some more came in the place that was left for them
module _ {end_of : List ℕ → ℕ} {longest : ℕ} {before after : List ℕ} {used end : ℕ} (so_far : Coming end_of longest before after used end) (less : used < end) (came : List ℕ) (same : length came ≡ length (mid_of used (end - used) after)) where
  fits : end ≤ length after
  fits = omega (arith, so_far.room, so_far.long, so_far.most)

  as_many : length came ≡ end - used
  as_many = same ∙ mid_len used end after fits

  pub came-few : (got : ℕ) → got ≤ length came → used + got ≤ end
  came-few got few = omega (arith, as_many)

  pub next-long : length (put_mid used (end - used) after came) ≡ length before
  next-long = same_len_mid used (end - used) after came same ∙ so_far.long

  next-behind : drop end (put_mid used (end - used) after came) ≡ drop end before
  next-behind =
      drop_put used end after came (omega arith) fits as_many
      ∙ drop_past used end after before (omega arith) so_far.behind

  later : NeverPast end_of → (got : ℕ) → end ≤ end_of (take (used + got) (put_mid used (end - used) after came))
  later never-past got =
      let next : List ℕ = put_mid used (end - used) after came in
      let front : take (used + got) next ≡ take used after ++ take got (drop used next)
      = take-add used got next ∙ ap (λ (l : List ℕ). l ++ take got (drop used next)) (take_put used (end - used) after came (omega (arith, fits))) in
      omega (arith, so_far.ends, never-past (take used after) (take got (drop used next)), ap end_of front)

  -- fewer than there was place for: the trace is cut
  pub came-cut : NeverPast end_of → (got : ℕ) → used + got < end → Came end_of before (put_mid used (end - used) after came) (used + got)
  came-cut never-past got h =
      let next : List ℕ = put_mid used (end - used) after came in
      record {
        within = omega (arith, next-long, fits, so_far.long);
        inside = omega (arith, later never-past got);
        behind = drop_past end (end_of (take (used + got) next)) next before (later never-past got) next-behind;
      }

  pub cut-past : drop longest (put_mid used (end - used) after came) ≡ drop longest before
  cut-past = drop_past end longest (put_mid used (end - used) after came) before so_far.most next-behind

  -- as many
  pub came-more : NeverPast end_of → (got : ℕ) {next-end : ℕ} → got ≤ length came → end ≤ used + got
      → (next-end ≡ end_of (take (used + got) (put_mid used (end - used) after came))) × (next-end ≤ longest)
      → Coming end_of longest before (put_mid used (end - used) after came) (used + got) next-end
  came-more never-past got {next-end} few all e =
      let whole : used + got ≡ end = omega (arith, as_many) in
      record {
        room = so_far.room;
        long = next-long;
        ends = e.0;
        most = e.1;
        inside = omega (arith, later never-past got, e.0);
        behind = rw whole next-behind;
      }
