-- 02, 2.10: the tables of one tick by a schedule: opened, with what is heard, and left; and tables carried over to the next call, in the three
-- changes of setup. Assumes nothing.
use Prim.Native.Nat.{ℕ, zero, suc, ◌+◌, ◌-◌, ◌%◌, ◌≤◌, ◌<◌}
use native.Mathlib.Omega.{arith}
use native.Mathlib.Nat.{mod-eq_of_lt}
use mathlib.Core.Path.{◌≡◌, refl, sym, ap, subst, ◌∙◌}
use mathlib.Core.Bool.{Bool, true, false, cond}
use mathlib.Core.List.{List}
use Rattle.model.specs.Setup.{Setup, width}
use Rattle.model.specs.Timestamp.{Timestamp, counts_from, sum, at_most, clock_step, sound_clock, sound_beside, trimmed, widened, replaced, absorb, count_own}
use Rattle.model.specs.Frame.{Frame}
use Rattle.model.specs.Batch.{batch_entries}
use Rattle.model.specs.Question.{first_no}
use Rattle.model.specs.Judge.{Heard}
use Rattle.model.specs.Tick.{Input, step_of}
use Rattle.model.specs.Schedule.{Schedule, steady, widening, modulus_of, own_limits, tables_half}
use Rattle.model.specs.Wider.{frame_half, wider_reading, wider_decode, wider_questions, wider_hear_one, wider_hear, absorb_wide, wider_absorb_by, wider_absorb_all, wider_step_of, wider_tables, wider_tables_sound, wider_step, wider_opening_stamp, wider_opening, wider_opened, wider_heard, wider_heard_stamp, wider_new_stamp}
use Rattle.lemmas.proofs.Bounds.{Limits, Opened}
use Rattle.lemmas.proofs.Reading.{step-true}
use Rattle.lemmas.proofs.Counts.{Left, clock-steps, clock-sound, beside-clock, beside-left, left-beside, opened-step, opened-into, opened-replaced, absorbed-opened, own-left, trimmed-wide, trimmed-widened}
use Rattle.lemmas.proofs.Hearing.{numbers_by, fold-stamp, fold-verdicts}
use Rattle.lemmas.proofs.Queue.{early_from}
use Rattle.lemmas.proofs.Schedules.{Good, limits-good, limits-modulus, limits-grow, Aligned, limits-aligned, modulus-aligned}
use Rattle.lemmas.proofs.WiderQueue.{PassedAlong, judged-along}
use Rattle.lemmas.proofs.WiderReceiving.{heard-verdict-along}
use Rattle.lemmas.proofs.Carried.{Follows}

-- ---- opened

module _ (g : Schedule) (good : Good g) where
  abbrev s : Setup
  s = own_limits g

  limits-own : Limits s
  limits-own = limits-good g good (modulus_of g)

  -- tables are never wider than the limits of v
  half-most : (k : ℕ) → tables_half g k ≤ s.epsilon
  half-most k = (limits-grow g good (modulus_of g - k) (modulus_of g) (omega arith)).0

  half-some : (k : ℕ) → 1 ≤ tables_half g k
  half-some k = (limits-good g good (modulus_of g - k)).epsilon-pos

-- tick 2, of tables that are sound at their own clock
pub step-along :
    (g : Schedule) → Good g → (k v : ℕ) (t : Timestamp) → 1 ≤ k → k ≤ (own_limits g).epsilon → Left (own_limits g).n (tables_half g k) t
    → Opened (own_limits g).n (own_limits g).epsilon (wider_step g k v t)
unfolding width
step-along (steady s) good k v t pos few left = opened-step s.n s.epsilon k v t good.n_pos pos (omega (arith, few)) left
step-along (widening before after change) good k v t pos few left =
    let g = widening before after change in
    opened-into (own_limits g).n (own_limits g).epsilon (tables_half g k) k v t (limits-own g good).n_pos pos (half-most g good k) left

module _ (g : Schedule) (good : Good g) where
  -- tick 1 and 2, from any tables
  pub opening-stamp-along : (v : ℕ) (tables : Timestamp) → Opened (own_limits g).n (own_limits g).epsilon (wider_opening_stamp g v tables)
  unfolding wider_opening_stamp wider_tables_sound step_of
  opening-stamp-along v tables = go (wider_tables_sound g v tables) refl
    where
      k : ℕ
      k = wider_step_of g v tables

      clock : Bool
      clock = sound_clock (own_limits g).epsilon (modulus_of g) v tables.r

      go :
          (b : Bool) → sound_beside clock (own_limits g).n (tables_half g k) (wider_tables g v tables) ≡ b
          → Opened (own_limits g).n (own_limits g).epsilon (cond b (wider_step g k v (wider_tables g v tables)) (replaced (own_limits g).epsilon v))
      go true e =
          let steps = clock-steps (own_limits g).epsilon (modulus_of g) v tables.r (beside-clock clock (own_limits g).n (tables_half g k) (wider_tables g v tables) e) in
          let same : clock_step (own_limits g).modulus tables.r v ≡ clock_step (modulus_of g) tables.r v = ap (λ (B : ℕ). clock_step B tables.r v) (limits-modulus g good (modulus_of g)) in
          step-along g good k v (wider_tables g v tables) (omega (arith, same, steps.0)) (omega (arith, same, steps.1))
          (beside-left clock (own_limits g).n (tables_half g k) (wider_tables g v tables) (half-some g good k) (trimmed-wide (tables_half g k) tables) e)
      go false e = opened-replaced (own_limits g).n (own_limits g).epsilon v (limits-own g good).n_pos (limits-own g good).epsilon-pos

-- ---- with what is heard

-- a taken frame goes into the stamp by its own half width; with one pair that is `absorb`
pub absorb-taken :
    (g : Schedule) (v : ℕ) (f : Frame) (t : Timestamp)
    → wider_absorb_by g 0 v f t ≡ absorb_wide (own_limits g).epsilon (frame_half g f) (modulus_of g) t (wider_reading g v f) f.stamp
unfolding absorb absorb_wide
absorb-taken (steady s) v f t = refl
absorb-taken (widening before after change) v f t = refl

pub absorb-skipped : (g : Schedule) (k v : ℕ) (f : Frame) (t : Timestamp) → wider_absorb_by g (suc k) v f t ≡ t
absorb-skipped (steady s) k v f t = refl
absorb-skipped (widening before after change) k v f t = refl

module _ (g : Schedule) (good : Good g) (v : ℕ) where
  abbrev Open : Timestamp → Type 0
  Open t = Opened (own_limits g).n (own_limits g).epsilon t

  pub taken-along :
      (queue : List Frame) (t : Timestamp) (f : Frame) → Open t → PassedAlong g v queue f
      → at_most ((own_limits g).n - 1) (counts_from (frame_half g f) (wider_reading g v f) f.stamp.kn (modulus_of g)) ≡ true
      → Open (wider_absorb_by g 0 v f t)
  unfolding sum
  taken-along queue t f o p counts =
      subst Open (sym (absorb-taken g v f t))
      (absorbed-opened (own_limits g).epsilon (frame_half g f) (modulus_of g) (wider_reading g v f) t f.stamp (own_limits g).n
      (limits-own g good).n_pos (limits-own g good).epsilon-pos o p.frame.sound
      (omega (arith, early_from (own_limits g) v f p.early, limits-modulus g good (modulus_of g))) counts)

  pub absorb-one-along : (queue : List Frame) (bytes : List ℕ) (t : Timestamp) → Open t → Open (wider_absorb_by g (first_no (wider_questions g v queue bytes)) v (wider_decode g bytes) t)
  absorb-one-along queue bytes t o = go (first_no (wider_questions g v queue bytes)) refl
    where
      go : (k : ℕ) → first_no (wider_questions g v queue bytes) ≡ k → Open (wider_absorb_by g k v (wider_decode g bytes) t)
      go zero e = let j = judged-along g good v queue bytes e in taken-along queue t (wider_decode g bytes) o j.0 j.1
      go (suc k) e = subst Open (sym (absorb-skipped g k v (wider_decode g bytes) t)) o

  pub absorb-all-along :
      (h : Heard) (t : Timestamp) (entries : List (List ℕ)) → Open t
      → Open (wider_absorb_all g v t entries (numbers_by (wider_questions g v) (wider_hear_one g v (wider_questions g v)) h entries))
  unfolding wider_absorb_all
  absorb-all-along h t entries o =
      fold-stamp (wider_questions g v) (wider_hear_one g v (wider_questions g v)) (λ number bytes u. wider_absorb_by g number v (wider_decode g bytes) u) Open
      (λ queue bytes u p. absorb-one-along queue bytes u p) h t entries o

-- an accepted tick, from any state: the new stamp is sound, and its clock is v
module _ (g : Schedule) (good : Good g) (i : Input) where
  pub heard-numbers-along :
      (wider_heard g i).verdicts
      ≡ numbers_by (wider_questions g i.clock) (wider_hear_one g i.clock (wider_questions g i.clock)) (wider_opening g i.clock (wider_opened g i)) (batch_entries i.batch)
  unfolding wider_heard wider_hear
  heard-numbers-along =
      fold-verdicts (wider_questions g i.clock) (wider_hear_one g i.clock (wider_questions g i.clock)) (heard-verdict-along g i.clock (wider_questions g i.clock))
      (wider_opening g i.clock (wider_opened g i)) (batch_entries i.batch)

  pub new-left-along : Left (own_limits g).n (own_limits g).epsilon (wider_new_stamp g i)
  unfolding wider_new_stamp wider_heard_stamp
  new-left-along =
      own-left (own_limits g).n (own_limits g).epsilon i.clock (wider_heard_stamp g i) (limits-own g good).n_pos (limits-own g good).epsilon-pos
      (rw heard-numbers-along
      (absorb-all-along g good i.clock (wider_opening g i.clock (wider_opened g i)) (wider_opening_stamp g i.clock i.tables) (batch_entries i.batch)
      (opening-stamp-along g good i.clock i.tables)))

  pub new-clock-along : (wider_new_stamp g i).r ≡ i.clock
  unfolding wider_new_stamp count_own
  new-clock-along = refl

-- ---- carried over

-- tables that a call for v leaves are sound k clocks later, where the next call takes them for as wide as they are
module _ (l l' : Schedule) (v k : ℕ) (good : Good l) (good' : Good l') (follows : Follows l l') (below : v < modulus_of l) (pos : 1 ≤ k) (few : k ≤ (own_limits l').epsilon) where
  large : k < modulus_of l
  large =
      omega (arith, few, (limits-own l' good').modulus-least, (limits-own l' good').epsilon-pos, limits-modulus l' good' (modulus_of l'), follows.modulus)

  step-carried : (r : ℕ) → r ≡ v → clock_step (modulus_of l') r ((v + k) % modulus_of l) ≡ k
  step-carried r e =
      rw (follows.modulus, e)
      (ap (λ (x : ℕ). clock_step (modulus_of l) x ((v + k) % modulus_of l)) (sym (mod-eq_of_lt below)) ∙ step-true (modulus_of l) v k large)

  pub tables-carried :
      (t : Timestamp) → t.r ≡ v → Left (own_limits l).n (own_limits l).epsilon t → tables_half l' k ≡ (own_limits l).epsilon
      → wider_tables_sound l' ((v + k) % modulus_of l) (widened t) ≡ true
  unfolding wider_tables_sound step_of widened
  tables-carried t clock left half =
      let v' : ℕ = (v + k) % modulus_of l in
      let steps : clock_step (own_limits l').modulus t.r v' ≡ k =
      ap (λ (B : ℕ). clock_step B t.r v') (limits-modulus l' good' (modulus_of l')) ∙ step-carried t.r clock in
      let as_wide : tables_half l' (clock_step (own_limits l').modulus t.r v') ≡ (own_limits l).epsilon = ap (tables_half l') steps ∙ half in
      let sound : Bool = sound_clock (own_limits l').epsilon (modulus_of l') v' t.r in
      (λ j. sound_beside sound (follows.n j) (as_wide j) (trimmed (as_wide j) (widened t)))
      ∙ (ap (sound_beside sound (own_limits l).n (own_limits l).epsilon)
      (trimmed-widened (own_limits l).epsilon t (limits-own l good).epsilon-most left.sound.wide)
      ∙ left-beside sound (own_limits l).n (own_limits l).epsilon t left
      (clock-sound (own_limits l').epsilon (modulus_of l') v' t.r k (omega (arith, clock, below, follows.modulus)) (step-carried t.r clock) pos few))

-- they are that: in a call k clocks later by the same schedule
pub half-moved-on : (l l' : Schedule) (k : ℕ) → Aligned k 0 l' l → k ≤ modulus_of l → tables_half l' k ≡ (own_limits l).epsilon
half-moved-on l l' k aligned few =
    ap (λ (s : Setup). s.epsilon)
    (limits-aligned k 0 l' l aligned (modulus_of l' - k) (modulus_of l) (omega (arith, modulus-aligned k 0 l' l aligned, few)))
