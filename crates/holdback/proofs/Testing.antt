-- The tests of one frame, and of two, as the code makes them.
-- Assumes nothing.
use Rattle.std.proofs.Common.{◌≡◌, ℕ, ◌+◌, ◌-◌, ◌%◌, ◌^◌, ◌<◌, ◌≤◌, Bool, true, false, eqb, leb, ◌⊎◌, List, length, refl, ap, ◌∙◌, ap₂, inl, inr, arith, le-leb, leb-true}
use borrow.Author.Tests.{lt-leb}
use Rattle.laws.specs.Lex.{lex_compare, is_less}
use Rattle.laws.proofs.Numbers.{lt-or-ge, and_left, and_right}
use Rattle.model.specs.Setup.{Setup, width}
use Rattle.model.specs.Timestamp.{sum}
use Rattle.model.specs.Frame.{Frame, decode}
use Rattle.model.specs.Question.{first_no, frame_questions}
use Rattle.model.specs.Order.{reading_of, counts_down, key_by, key, key_near, compare_frames, before, sum_due, due, due_near}
use Rattle.model.specs.Comparison.{compare_keys}
use Rattle.model.specs.Comparison as model
use Rattle.model.specs.Holdback.{passes, not_early, not_expired}
use Rattle.timestamp.specs.declared.ordering.Comparison.{Comparison}
use Rattle.timestamp.specs.declared.ordering.Comparison.TheVariants.{First, Second, Alike}
use Rattle.timestamp.specs.declared.ordering.Rank.{Rank}
use Rattle.timestamp.specs.Ranks.{comparison_of, ranked_frame, Ranked}
use Rattle.lemmas.proofs.Bounds.{Limits}
use Rattle.lemmas.proofs.Queue.{reading-high}
use Rattle.lemmas.proofs.Comparing.{keys-order, length-key}
use Rattle.timestamp.proofs.Ordered.{Tags}
use Rattle.lemmas.proofs.RoundTrip.{formed-from, decode-wide}
use Rattle.holdback.specs.Queue.{rank_at, rank_of, rank_before}
use Rattle.holdback.specs.Sound.{fits, timely, Recent, Summed}
use Rattle.holdback.specs.Starts.{rank_wait, entries_to, sum_wait}
use Rattle.holdback.proofs.RoundTrip.{passing}

-- ---- 10 to 12 by their number

pub passes-by : (s : Setup) (bytes : List ℕ) (r : ℕ) → r ≡ first_no (frame_questions s bytes) → eqb r 0 ≡ passes s bytes
unfolding passes
passes-by s bytes r e = ap (λ (n : ℕ). eqb n 0) e

pub unfit-passes : (s : Setup) (v least : ℕ) (bytes : List ℕ) → passes s bytes ≡ false → fits s v least bytes ≡ false
unfolding fits
unfit-passes s v least bytes e = rw e

-- ---- sums

pub summed : (s : Setup) (v : ℕ) (bytes : List ℕ) (reading c : ℕ) → Limits s → passes s bytes ≡ true
    → reading ≡ reading_of s v (decode s.epsilon bytes) → c ≡ (decode s.epsilon bytes).stamp.c
    → Summed s v (decode s.epsilon bytes) (reading + c)
summed s v bytes reading c limits ok er ec =
    let p = passing s bytes ok in
    let h = reading-high s v (decode s.epsilon bytes) limits in
    record { is_sum = ap₂ ◌+◌ er ec; small = omega arith }

-- early or expired, by the rank: x is how far its due clock, `own`, lies past the least, in numbers that wrap, and `last` the due clock of the
-- largest sum allowed
module _ (s : Setup) (least : ℕ) (rank : Rank) (limits : Limits s) (near : Recent s least) (small : (rank.reading ≤ 2 ^ 17) × (rank.c < s.epsilon)) where
  pub timely-by : (x own last : ℕ) → x < 2 ^ 64 → own ≡ sum_due s (rank.reading + rank.c) → last ≡ sum_due s (s.modulus + (s.epsilon - 1)) → (x + least) % 2 ^ 64 ≡ own
      → leb x (last - least) ≡ timely s least rank
  unfolding timely due sum
  timely-by x own last wide own_is last-is e =
      let total : ℕ = rank.reading + rank.c in
      elim (lt-or-ge (s.modulus + (s.epsilon - 1)) total) [
        | inl early ↦ rw (lt-leb total (s.modulus + (s.epsilon - 1)) early, lt-leb x (last - least) (omega arith))
        | inr inside ↦
            elim (lt-or-ge (sum_due s total) least) [
              | inl expired ↦ rw (le-leb total (s.modulus + (s.epsilon - 1)) inside, lt-leb least (sum_due s total) expired, lt-leb x (last - least) (omega arith))
              | inr later ↦ rw (le-leb total (s.modulus + (s.epsilon - 1)) inside, le-leb least (sum_due s total) later, le-leb x (last - least) (omega arith))
            ]
      ]

pub fits-passes : (s : Setup) (v least : ℕ) (bytes : List ℕ) → fits s v least bytes ≡ true → passes s bytes ≡ true
unfolding fits
fits-passes s v least bytes h = and_left (passes s bytes) _ h

-- a frame that passes 10 to 12 fits if its rank is timely
pub fits_by : (s : Setup) (v least : ℕ) (bytes : List ℕ) (rank : Rank) → passes s bytes ≡ true → rank ≡ rank_of s v (decode s.epsilon bytes) → timely s least rank ≡ fits s v least bytes
unfolding fits timely not_early not_expired due_near
fits_by s v least bytes rank ok e = ap (timely s least) e ∙ rw ok

pub due-summed : (s : Setup) (v : ℕ) (f : Frame) (r : ℕ) → Summed s v f r → sum_due s r ≡ due_near s v f
unfolding due_near due sum
due-summed s v f r total = ap (sum_due s) total.is_sum

-- the place of a sum
pub rank-past : (s : Setup) (least : ℕ) (rank : Rank) → timely s least rank ≡ true → least ≤ sum_due s (rank.reading + rank.c)
unfolding timely due sum
rank-past s least rank h = leb-true _ _ (and_right (leb (rank.reading + rank.c) (s.modulus + (s.epsilon - 1))) _ h)

pub rank-placed : (s : Setup) (v : ℕ) (f : Frame) (rank : Rank) → rank ≡ rank_of s v f → rank_wait s rank ≡ sum_wait s v f
unfolding rank_wait sum_wait due_near
rank-placed s v f rank e = ap (rank_wait s) e

-- the places up to it
pub places-placed : (s : Setup) (v : ℕ) (f : Frame) {total : ℕ} → total ≡ reading_of s v f + f.stamp.c → entries_to s total ≡ due_near s v f + 1 - s.modulus
unfolding entries_to due_near due sum
places-placed s v f e = ap (entries_to s) e

-- ---- the order of two

-- a rank with a reading that is handed on
pub rank-read : (s : Setup) (v : ℕ) (f : Frame) (reading : ℕ) {rank : Rank} → rank ≡ rank_at reading f → reading ≡ reading_of s v f → rank ≡ rank_of s v f
rank-read s v f reading e r = e ∙ ap (λ (x : ℕ). rank_at x f) r

-- the key of a rank and counts is that of their frame, with its r at the reading
pub key-read : (epsilon reading : ℕ) (f : Frame) (rank : Rank) (kn : List ℕ) → rank ≡ rank_at reading f → kn ≡ f.stamp.kn
    → key_by epsilon rank.reading (ranked_frame rank kn) ≡ key_by epsilon reading f
unfolding key_by counts_down
key-read epsilon reading f rank kn er ek =
    ap₂ (λ (q : Rank) (l : List ℕ). key_by epsilon q.reading (ranked_frame q l)) er ek

pub key-ranked : (s : Setup) (v : ℕ) (f : Frame) (rank : Rank) (kn : List ℕ) → rank ≡ rank_of s v f → kn ≡ f.stamp.kn
    → key_by s.epsilon rank.reading (ranked_frame rank kn) ≡ key_near s v f
unfolding key_near key
key-ranked s v f rank kn er ek = key-read s.epsilon (reading_of s v f) f rank kn er ek

pub less-first : (tags : Tags) (o : Comparison) → tags.tag o ≡ 0 → true ≡ is_less (comparison_of o).order
less-first tags (First reason) t = refl
less-first tags (Second reason) t = absurd (omega (arith, tags.at_second reason))
less-first tags Alike t = absurd (omega (arith, tags.at-alike))

pub less-not : (tags : Tags) (o : Comparison) → (tags.tag o ≡ 1) ⊎ (tags.tag o ≡ 2) → false ≡ is_less (comparison_of o).order
less-not tags (First reason) (inl t) = absurd (omega (arith, tags.at_first reason))
less-not tags (First reason) (inr t) = absurd (omega (arith, tags.at_first reason))
less-not tags (Second reason) t = refl
less-not tags Alike t = refl

module _ (tags : Tags) (epsilon : ℕ) (f g : Rank) (kf kg : List ℕ) (o : Comparison)
    (e : comparison_of o ≡ compare_keys epsilon (key_by epsilon f.reading (ranked_frame f kf)) (key_by epsilon g.reading (ranked_frame g kg))) where
  same-order : (comparison_of o).order ≡ lex_compare (key_by epsilon f.reading (ranked_frame f kf)) (key_by epsilon g.reading (ranked_frame g kg))
  same-order =
      ap (λ (c : model.Comparison). c.order) e
      ∙ keys-order epsilon _ _ (length-key epsilon f.reading g.reading (ranked_frame f kf) (ranked_frame g kg))

  pub is-before : tags.tag o ≡ 0 → true ≡ rank_before epsilon f kf g kg
  unfolding rank_before
  is-before t = less-first tags o t ∙ ap is_less same-order

  pub not-before : (tags.tag o ≡ 1) ⊎ (tags.tag o ≡ 2) → false ≡ rank_before epsilon f kf g kg
  unfolding rank_before
  not-before t = less-not tags o t ∙ ap is_less same-order

pub ranked : (s : Setup) (v : ℕ) (bytes kn : List ℕ) (rank : Rank) → Limits s → passes s bytes ≡ true → kn ≡ (decode s.epsilon bytes).stamp.kn → rank ≡ rank_of s v (decode s.epsilon bytes)
    → Ranked s.epsilon rank kn
unfolding width
ranked s v bytes kn rank limits ok ek e =
    let p = passing s bytes ok in
    let h = reading-high s v (decode s.epsilon bytes) limits in
    let ec : rank.c ≡ (decode s.epsilon bytes).stamp.c = ap (λ (q : Rank). q.c) e in
    let er : rank.reading ≡ reading_of s v (decode s.epsilon bytes) = ap (λ (q : Rank). q.reading) e in
    let wide : length kn ≡ width s.epsilon = ap length ek ∙ decode-wide s.epsilon bytes (formed-from s.epsilon bytes p.well) in
    record {
      lead = omega arith;
      small = omega arith;
      long = omega arith;
    }

pub rank-low : (s : Setup) (v : ℕ) (f : Frame) (rank : Rank) → Limits s → rank ≡ rank_of s v f → rank.reading ≤ 2 ^ 17
rank-low s v f rank limits e =
    let er : rank.reading ≡ reading_of s v f = ap (λ (q : Rank). q.reading) e in
    omega (arith, reading-high s v f limits)

-- what a frame that fits says of its rank
pub rank-fits : (s : Setup) (v least : ℕ) (bytes : List ℕ) (rank : Rank) → Limits s → fits s v least bytes ≡ true → rank ≡ rank_of s v (decode s.epsilon bytes)
    → (rank.reading ≤ 2 ^ 17) × ((rank.c < s.epsilon) × (timely s least rank ≡ true))
rank-fits s v least bytes rank limits h e =
    let ok = fits-passes s v least bytes h in
    let o = ranked s v bytes (decode s.epsilon bytes).stamp.kn rank limits ok refl e in
    (rank-low s v (decode s.epsilon bytes) rank limits e, (o.lead, fits_by s v least bytes rank ok e ∙ h))

-- by ranks and counts as by the frames themselves
pub before-by : (s : Setup) (v : ℕ) (f g : Frame) (rf rg : Rank) (kf kg : List ℕ) → rf ≡ rank_of s v f → kf ≡ f.stamp.kn → rg ≡ rank_of s v g → kg ≡ g.stamp.kn
    → rank_before s.epsilon rf kf rg kg ≡ before s v f g
unfolding rank_before before compare_frames
before-by s v f g rf rg kf kg ef ek eg el =
    ap₂ (λ (k l : List ℕ). is_less (lex_compare k l)) (key-ranked s v f rf kf ef ek) (key-ranked s v g rg kg eg el)

-- the same, of a test of the first
pub before-rank : (s : Setup) (v : ℕ) (f g : Frame) (rank : Rank) (kn : List ℕ) → rank ≡ rank_of s v g → kn ≡ g.stamp.kn → {t : Bool} → t ≡ rank_before s.epsilon (rank_of s v f) f.stamp.kn rank kn
    → t ≡ before s v f g
before-rank s v f g rank kn er ek e = e ∙ before-by s v f g (rank_of s v f) rank f.stamp.kn kn refl refl er ek
