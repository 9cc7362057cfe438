-- The table of origins: looking up, marking, taking a mark away, and the empty table.
-- Assumes nothing.
use Rattle.std.proofs.Common.{◌≡◌, ℕ, ◌*◌, ◌<◌, Bool, true, false, ◌||◌, eqb, List, [], length, replicate, sym, refl, ap, ◌∙◌, arith, eq-eqb, ne_eqb, eqb-true}
use mathlib.Core.List.{Memᴰ}
use Rattle.laws.specs.Lists.{any, insert_at}
use Rattle.laws.proofs.Numbers.{and_intro, and_left, and_right, or_left, same_test}
use Rattle.laws.proofs.Lists.{any-ext, any-insert_at}
use Rattle.model.specs.Setup.{Setup}
use Rattle.model.specs.Frame.{Frame, decode}
use Rattle.model.specs.Order.{reading_of}
use Rattle.model.specs.Holdback.{same_origin}
use Rattle.timestamp.specs.declared.ordering.Rank.{Rank}
use Rattle.holdback.specs.Queue.{rank_of}
use Rattle.holdback.specs.Sound.{Recent}
use Rattle.holdback.specs.Seen.{Placeable, Within, word_length, table_length, rank_slot, slot_of, seen_table, without_mark, is_marked, marked}
use Rattle.lemmas.proofs.Bounds.{Limits}
use Rattle.holdback.proofs.RoundTrip.{passing}
use Rattle.lemmas.proofs.Queue.{expired-from, reading-high}
use Rattle.lemmas.proofs.Reading.{near-injective}
use Rattle.holdback.proofs.Bits.{table-has, table-with, table-without, no-marks, length-table}
use Rattle.holdback.proofs.Judging.{Fitting}

-- a frame that a sound queue can have is one
pub fitting-placeable : (s : Setup) (v least : ℕ) (bytes : List ℕ) → Recent s least → Fitting s v least bytes → Placeable s v (decode s.epsilon bytes)
fitting-placeable s v least bytes near fit =
    let p = passing s bytes fit.passed in
    let o = expired-from s v least (decode s.epsilon bytes) fit.expired in
    record { station-below = p.station-below; r-below = p.r-below; not-before = omega arith }

pub rank_below : (s : Setup) → Limits s → (rank : Rank) → Within s rank → rank_slot s rank < table_length * word_length
rank_below s limits rank w = omega arith

-- the place of a frame's rank is the frame's
pub rank-slot : (s : Setup) (v : ℕ) (f : Frame) (rank : Rank) → rank ≡ rank_of s v f → rank_slot s rank ≡ slot_of s v f
unfolding slot_of
rank-slot s v f rank e = ap (rank_slot s) e

module _ (s : Setup) (v : ℕ) (limits : Limits s) (below : v < s.modulus) where
  -- a frame's rank has a place if the frame has one
  pub within : (f : Frame) (rank : Rank) → Placeable s v f → rank ≡ rank_of s v f → Within s rank
  within f rank w e =
      let er : rank.reading ≡ reading_of s v f = ap (λ (q : Rank). q.reading) e in
      let es : rank.station ≡ f.station = ap (λ (q : Rank). q.station) e in
      let h = reading-high s v f limits in
      record { station-below = omega (arith, w.station-below); not-before = omega (arith, w.not-before); not-past = omega arith }

  slot-below : (f : Frame) → Placeable s v f → slot_of s v f < table_length * word_length
  unfolding slot_of
  slot-below f w = rank_below s limits (rank_of s v f) (within f (rank_of s v f) w refl)

  same-reading : (f g : Frame) → Placeable s v f → Placeable s v g → reading_of s v f ≡ reading_of s v g → f.stamp.r ≡ g.stamp.r
  unfolding reading_of
  same-reading f g w x e =
      near-injective s.epsilon s.modulus v f.stamp.r g.stamp.r limits.epsilon-pos (omega arith) below w.r-below x.r-below e

  same-near : (f g : Frame) → f.stamp.r ≡ g.stamp.r → reading_of s v f ≡ reading_of s v g
  unfolding reading_of
  same-near f g e = rw e

  -- one place, one origin
  pub same-slot : (f g : Frame) → Placeable s v f → Placeable s v g → eqb (slot_of s v g) (slot_of s v f) ≡ same_origin f g
  unfolding slot_of same_origin
  same-slot f g w x =
      same_test (eqb (slot_of s v g) (slot_of s v f)) (same_origin f g)
      (λ e.
      let one : slot_of s v g ≡ slot_of s v f = eqb-true (slot_of s v g) (slot_of s v f) e in
      let h = reading-high s v f limits in
      let k = reading-high s v g limits in
      let station : f.station ≡ g.station = omega arith in
      let reading : reading_of s v f ≡ reading_of s v g = omega arith in
      and_intro (eq-eqb f.station g.station station) (eq-eqb f.stamp.r g.stamp.r (same-reading f g w x reading)))
      (λ e.
      let station : f.station ≡ g.station = eqb-true f.station g.station (and_left (eqb f.station g.station) (eqb f.stamp.r g.stamp.r) e) in
      let r : f.stamp.r ≡ g.stamp.r = eqb-true f.stamp.r g.stamp.r (and_right (eqb f.station g.station) (eqb f.stamp.r g.stamp.r) e) in
      let reading : reading_of s v f ≡ reading_of s v g = same-near f g r in
      eq-eqb (slot_of s v g) (slot_of s v f) (omega arith))

  -- question 16 is one look-up
  pub seen_at : (queue : List Frame) (f : Frame) → ((g : Frame) → Memᴰ g queue → Placeable s v g) → Placeable s v f
      → is_marked s v f (seen_table s v queue) ≡ any (same_origin f) queue
  unfolding is_marked seen_table
  seen_at queue f all w =
      table-has (slot_of s v f) (slot-below f w) (λ i. any (λ g. eqb (slot_of s v g) i) queue)
      ∙ any-ext (λ g. eqb (slot_of s v g) (slot_of s v f)) (same_origin f) queue (λ g m. same-slot f g w (all g m))

  -- a frame more, wherever it is put: at its own place the table is marked, at no other it changes
  module _ (queue more : List Frame) (f : Frame) (e : (p : Frame → Bool) → any p more ≡ (p f || any p queue)) where
    more-own : any (λ g. eqb (slot_of s v g) (slot_of s v f)) more ≡ true
    more-own =
        e (λ g. eqb (slot_of s v g) (slot_of s v f)) ∙ or_left (any (λ g. eqb (slot_of s v g) (slot_of s v f)) queue) (eq-eqb (slot_of s v f) (slot_of s v f) refl)

    more-other : (j : ℕ) → (j ≡ slot_of s v f → ⊥) → any (λ g. eqb (slot_of s v g) j) queue ≡ any (λ g. eqb (slot_of s v g) j) more
    more-other j d = sym (e (λ g. eqb (slot_of s v g) j) ∙ rw (ne_eqb (slot_of s v f) j (λ h. d (sym h))))

    pub seen_more : Placeable s v f → is_marked s v f (seen_table s v queue) ≡ false → marked s v f (seen_table s v queue) ≡ seen_table s v more
    unfolding is_marked marked seen_table
    seen_more w new =
        table-with (slot_of s v f) (slot-below f w) (λ i. any (λ g. eqb (slot_of s v g) i) queue) (λ i. any (λ g. eqb (slot_of s v g) i) more)
        (sym (table-has (slot_of s v f) (slot-below f w) (λ i. any (λ g. eqb (slot_of s v g) i) queue)) ∙ new) more-own more-other

    -- and one less
    pub seen-own : Placeable s v f → is_marked s v f (seen_table s v more) ≡ true
    unfolding is_marked seen_table
    seen-own w = table-has (slot_of s v f) (slot-below f w) (λ i. any (λ g. eqb (slot_of s v g) i) more) ∙ more-own

    pub seen-less : Placeable s v f → any (λ g. eqb (slot_of s v g) (slot_of s v f)) queue ≡ false → without_mark (seen_table s v more) (slot_of s v f) ≡ seen_table s v queue
    unfolding seen_table
    seen-less w alone =
        table-without (slot_of s v f) (slot-below f w) (λ i. any (λ g. eqb (slot_of s v g) i) queue) (λ i. any (λ g. eqb (slot_of s v g) i) more) alone more-own more-other

  pub seen-insert : (queue : List Frame) (place : ℕ) (f : Frame) → Placeable s v f → is_marked s v f (seen_table s v queue) ≡ false
      → marked s v f (seen_table s v queue) ≡ seen_table s v (insert_at place f queue)
  seen-insert queue place f w new = seen_more queue (insert_at place f queue) f (λ p. any-insert_at p place f queue) w new

pub seen_none : (s : Setup) (v : ℕ) → replicate table_length 0 ≡ seen_table s v []
unfolding seen_table any
seen_none s v = no-marks

pub length_seen : (s : Setup) (v : ℕ) (queue : List Frame) → length (seen_table s v queue) ≡ table_length
unfolding seen_table
length_seen s v queue = length-table (λ i. any (λ f. eqb (slot_of s v f) i) queue)
