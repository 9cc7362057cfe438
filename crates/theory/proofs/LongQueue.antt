-- 02, 2.9: what an engine hands out and keeps, by a search through all that it holds, is what the process delivers and keeps.
-- Assumes nothing.
use Prim.Native.Nat.{ℕ}
use native.Mathlib.Omega.{arith}
use mathlib.Core.Path.{◌≡◌, ap, subst, ◌∙◌}
use mathlib.Core.Logic.{inl, inr}
use mathlib.Core.Bool.{true, not}
use mathlib.Core.List.{List, map, Memᴰ}
use Rattle.laws.specs.Lists.{select, sort_by}
use Rattle.laws.proofs.Numbers.{same_test}
use Rattle.laws.proofs.Lists.{select-map, mem-of-select}
use Rattle.laws.proofs.Sorted.{less_by, less-irrefl, less-asym, less-total}
use Rattle.laws.proofs.InsertionSort.{sort_by-ext, sort_by-map}
use Rattle.model.specs.Setup.{Setup}
use Rattle.model.specs.Timestamp.{sum}
use Rattle.model.specs.Frame.{Frame}
use Rattle.model.specs.Order.{counts_down, key_by, key, due}
use Rattle.model.specs.Published.{Message, rank, less, deliverable_by, in_order}
use Rattle.model.specs.Long.{long_before, long_due, long_due_by}
use Rattle.theory.specs.Demand2.{reduced, reduced_frame}
use Rattle.theory.proofs.PublishedQueue.{less-keys}
use Rattle.theory.proofs.LongHear.{plain_frame}

-- what is kept is what is not due by v
pub long_kept_lem :
    (s : Setup) (v : ℕ) (held : List Message)
    → select (λ f. not (long_due_by s v f)) (map plain_frame held) ≡ map plain_frame (select (λ m. not (deliverable_by s.epsilon s.delta v m)) held)
unfolding long_due_by long_due due sum deliverable_by
long_kept_lem s v held = select-map (λ f. not (long_due_by s v f)) plain_frame held

-- a process holds messages of which a rank tells one
module _ (s : Setup) (v : ℕ) (held : List Message)
    (ranked : (m m' : Message) → Memᴰ m held → Memᴰ m' held → rank s.epsilon m ≡ rank s.epsilon m' → m ≡ m') where
  -- the order of two stamps, by clocks as they are, is that of the ranks
  abbrev long_key : Frame → List ℕ
  long_key f = key s f.stamp.r f

  key-first : (m m' : Message) → less_by (rank s.epsilon) m m' ≡ true → less_by long_key (plain_frame m) (plain_frame m') ≡ true
  unfolding key key_by counts_down reduced_frame reduced
  key-first m m' h = less-keys s 0 0 m.event.r m'.event.r m m' (omega arith) (omega arith) h

  before-alike : (m m' : Message) → Memᴰ m held → Memᴰ m' held → long_before s (plain_frame m) (plain_frame m') ≡ less s.epsilon m m'
  unfolding long_before less
  before-alike m m' t t' =
      same_test (less_by long_key (plain_frame m) (plain_frame m')) (less_by (rank s.epsilon) m m')
      (λ h.
      elim (less-total (rank s.epsilon) m m') [
        | inl q ↦ q
        | inr q ↦
            elim q [
              | inl e ↦
                  absurd (less-irrefl long_key (plain_frame m') (subst (λ (x : Message). less_by long_key (plain_frame x) (plain_frame m') ≡ true) (ranked m m' t t' e) h))
              | inr g ↦ absurd (less-asym long_key (plain_frame m) (plain_frame m') h (key-first m' m g))
            ]
      ])
      (λ h. key-first m m' h)

  -- what is handed out is what is due by v, in order
  pub long-delivered :
      sort_by (long_before s) (select (long_due_by s v) (map plain_frame held)) ≡ map plain_frame (in_order s.epsilon (select (deliverable_by s.epsilon s.delta v) held))
  unfolding long_due_by long_due due sum deliverable_by in_order
  long-delivered =
      ap (sort_by (long_before s)) (select-map (long_due_by s v) plain_frame held)
      ∙ (sort_by-map (long_before s) plain_frame (select (deliverable_by s.epsilon s.delta v) held)
      ∙ ap (map plain_frame)
      (sort_by-ext (λ x y. long_before s (plain_frame x) (plain_frame y)) (less s.epsilon) (select (deliverable_by s.epsilon s.delta v) held)
      (λ x y m n.
      before-alike x y (mem-of-select (deliverable_by s.epsilon s.delta v) held m).0 (mem-of-select (deliverable_by s.epsilon s.delta v) held n).0)))
