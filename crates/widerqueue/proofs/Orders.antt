-- The order of two frames as the code asks for it.
-- Assumes nothing.
use Prim.Native.Nat.{ℕ, suc, ◌+◌, ◌-◌, ◌≤◌, ◌<◌, ◌^◌}
use native.Mathlib.Omega.{arith}
use mathlib.Core.Path.{◌≡◌, refl, sym, ap, ap₂, ◌∙◌}
use mathlib.Core.Logic.{◌⊎◌}
use mathlib.Core.Bool.{Bool, true, false, cond}
use mathlib.Core.List.{List, [], ◌∷◌}
use lib.ListN.{length, get_or, length-append}
use Rattle.laws.specs.Lex.{lex_compare, is_less}
use Rattle.model.specs.Setup.{Setup, in_limits}
use Rattle.model.specs.Timestamp.{sum}
use Rattle.model.specs.Frame.{Frame, decode, counts_of, payload_count_at}
use Rattle.model.specs.Comparison as model
use Rattle.model.specs.Comparison.{compare_keys}
use Rattle.model.specs.Schedule.{Schedule, modulus_of, own_limits, half_of, compared_along, steady, widening, old_due}
use Rattle.model.specs.Wider.{half_in, frame_half, wider_reading, wider_formed, wider_decode, wider_passes, counts_down_by, wider_key, wider_key_near, wider_before}
use Rattle.lemmas.proofs.Comparing.{keys-order}
use Rattle.lemmas.proofs.Schedules.{Good, widest-good}
use Rattle.lemmas.proofs.WideFrames.{FrameWithin, half-one, half-some, passes-wide}
use Rattle.lemmas.proofs.WiderQueue.{length-down-by, reading-high-along}
use Rattle.timestamp.specs.declared.ordering.Comparison.{Comparison}
use Rattle.timestamp.specs.declared.ordering.Rank.{Rank}
use Rattle.timestamp.specs.Ranks.{comparison_of, ranked_frame}
use Rattle.timestamp.proofs.Ordered.{Tags}
use Rattle.widerframe.proofs.Widths.{frame-half}
use Rattle.widerstamp.specs.Keys.{key_with, Small}
use Rattle.widerstamp.proofs.Orders.{lex-wider}
use Rattle.holdback.specs.Queue.{rank_at}
use Rattle.holdback.proofs.Testing.{less-first, less-not}
use Rattle.widerqueue.specs.Queue.{comes_before}
use Rattle.widerqueue.proofs.Shared.{own-good, own-modulus, own-in-limits, own_below, r-same}
use Rattle.widerqueue.proofs.Forms.{passes-formed, formed-counts}

-- no half width is more than 16
pub half-most : (g : Schedule) → Good g → (count : ℕ) → half_of g count ≤ 16
half-most g good count = omega (arith, (half-some g good (half_of g count) (half-one g count)).1, (widest-good g good).epsilon-most)

pub compared-most : (g : Schedule) → Good g → (total : ℕ) → compared_along g total ≤ 16
compared-most (steady s) good total = good.epsilon-most
compared-most (widening before after change) good total = go (old_due before change total)
  where
    go : (b : Bool) → cond b before.epsilon after.epsilon ≤ 16
    go true = good.old.epsilon-most
    go false = good.new.epsilon-most

-- a frame that passes 10 to 12, by the limits of v
pub within-own : (g : Schedule) → Good g → (bytes : List ℕ) → wider_passes g bytes ≡ true → FrameWithin g (own_limits g) (wider_decode g bytes)
within-own g good bytes h = passes-wide g bytes good (own-good g good).epsilon-pos h

-- what reading its r asks, by the limits of v
pub read-asks : (g : Schedule) (good : Good g) (s : Setup) → s ≡ own_limits g → (v : ℕ) (bytes : List ℕ) → v < modulus_of g → wider_passes g bytes ≡ true
    → ((in_limits s ≡ true) × (v < s.modulus)) × ((decode s.epsilon bytes).stamp.r < s.modulus)
read-asks g good s e v bytes below h =
    let low : (own_limits g).modulus ≡ s.modulus = ap (λ (u : Setup). u.modulus) (sym e) in
    ((own-in-limits g s e good, own_below g s e good below), r-same g s e v bytes (omega (arith, (within-own g good bytes h).r-below)))

-- its rank is small
pub rank-small : (g : Schedule) → Good g → (bytes : List ℕ) (x half : ℕ) (rank : Rank) → wider_passes g bytes ≡ true → x ≤ 2 ^ 17 → rank ≡ rank_at x (wider_decode g bytes) → half ≡ half_in g bytes → Small half rank
rank-small g good bytes x half rank h low e eh =
    let ok = within-own g good bytes h in
    let ec : rank.c ≡ (wider_decode g bytes).stamp.c = ap (λ (q : Rank). q.c) e in
    let er : rank.reading ≡ x = ap (λ (q : Rank). q.reading) e in
    record {
      narrow = omega (arith, half-most g good (get_or bytes 4 0 - 1));
      reading = omega arith;
      lead = omega (arith, ok.close, (own-good g good).epsilon-most);
    }

-- its reading too
pub reading-low : (g : Schedule) → Good g → (v : ℕ) (f : Frame) → wider_reading g v f ≤ 2 ^ 17
reading-low g good v f = omega (arith, reading-high-along g good v f, (own-good g good).modulus-most, (own-good g good).epsilon-most, own-modulus g good)

counts-read : (g : Schedule) (bytes : List ℕ) → (wider_decode g bytes).stamp.kn ≡ counts_of (half_in g bytes) bytes
unfolding wider_decode decode
counts-read g bytes = refl

-- its counts stand in its bytes
pub counts-there : (g : Schedule) → Good g → (bytes : List ℕ) {half : ℕ} → wider_passes g bytes ≡ true → half ≡ half_in g bytes → (half ≤ 16) × (payload_count_at half ≤ length bytes)
counts-there g good bytes h e =
    rw e (half-most g good (get_or bytes 4 0 - 1), formed-counts g bytes (passes-formed g bytes h))

pub read_low : (g : Schedule) → Good g → (v : ℕ) (f : Frame) {n : ℕ} → n ≡ wider_reading g v f → n ≤ 2 ^ 17
read_low g good v f e = rw e (reading-low g good v f)

-- the key of a frame that is read
key-read : (g : Schedule) (most x half : ℕ) (bytes kn : List ℕ) (rank : Rank) → wider_formed g bytes ≡ true → rank ≡ rank_at x (wider_decode g bytes) → half ≡ half_in g bytes → kn ≡ counts_of half bytes
    → key_with most half rank.reading (ranked_frame rank kn) ≡ key_with most (frame_half g (wider_decode g bytes)) x (wider_decode g bytes)
unfolding counts_down_by
key-read g most x half bytes kn rank formed e eh ek =
    let f : Frame = wider_decode g bytes in
    let own : kn ≡ f.stamp.kn = ek ∙ ap (λ (n : ℕ). counts_of n bytes) eh ∙ sym (counts-read g bytes) in
    ap (λ (n : ℕ). key_with most n rank.reading (ranked_frame rank kn)) (eh ∙ sym (frame-half g bytes formed).0)
    ∙ ap₂ (λ (q : Rank) (l : List ℕ). key_with most (frame_half g f) q.reading (ranked_frame q l)) e own

-- two keys of so many counts are as long
same-long : (most half half' x y : ℕ) (a b : Frame) → length (key_with most half x a) ≡ length (key_with most half' y b)
same-long most half half' x y a b =
    ap suc
    (length-append (counts_down_by most half a.stamp) (a.station ∷ x ∷ [])
    ∙ ap (λ (n : ℕ). n + 2) (length-down-by most half a.stamp ∙ sym (length-down-by most half' b.stamp))
    ∙ sym (length-append (counts_down_by most half' b.stamp) (b.station ∷ y ∷ [])))

-- the comparison of two keys says which frame comes before
module _ (g : Schedule) (x y : ℕ) (f h kf kh : List ℕ) (a b : Rank) (half half' most : ℕ) (o : Comparison)
    (formed : wider_formed g f ≡ true) (formed' : wider_formed g h ≡ true) (ea : a ≡ rank_at x (wider_decode g f)) (eb : b ≡ rank_at y (wider_decode g h))
    (eh : half ≡ half_in g f) (eh' : half' ≡ half_in g h) (ek : kf ≡ counts_of half f) (ek' : kh ≡ counts_of half' h)
    (em : most ≡ compared_along g (a.reading + a.c))
    (e : comparison_of o ≡ compare_keys most (key_with most half a.reading (ranked_frame a kf)) (key_with most half' b.reading (ranked_frame b kh))) where
  abbrev first : Frame
  first = wider_decode g f

  abbrev second : Frame
  second = wider_decode g h

  most-is : most ≡ compared_along g (sum x first.stamp.c)
  unfolding sum
  most-is = em ∙ ap (λ (q : Rank). compared_along g (q.reading + q.c)) ea

  order_is : is_less (comparison_of o).order ≡ comes_before g x first y second
  unfolding comes_before
  order_is =
      ap is_less
      (ap (λ (c : model.Comparison). c.order) e
      ∙ ap₂ (λ (k l : List ℕ). (compare_keys most k l).order) (key-read g most x half f kf a formed ea eh ek) (key-read g most y half' h kh b formed' eb eh' ek')
      ∙ keys-order most (key_with most (frame_half g first) x first) (key_with most (frame_half g second) y second)
      (same-long most (frame_half g first) (frame_half g second) x y first second)
      ∙ ap (λ (m : ℕ). lex_compare (key_with m (frame_half g first) x first) (key_with m (frame_half g second) y second)) most-is
      ∙ sym (lex-wider g x y first second))

  pub is-before : (tags : Tags) → tags.tag o ≡ 0 → true ≡ comes_before g x first y second
  is-before tags t = less-first tags o t ∙ order_is

  pub not-before : (tags : Tags) → (tags.tag o ≡ 1) ⊎ (tags.tag o ≡ 2) → false ≡ comes_before g x first y second
  not-before tags t = less-not tags o t ∙ order_is

-- by the readings near v
pub before-near : (g : Schedule) (v x y : ℕ) (a b : Frame) → x ≡ wider_reading g v a → y ≡ wider_reading g v b → comes_before g x a y b ≡ wider_before g v a b
unfolding comes_before wider_before wider_key_near
before-near g v x y a b ex ey = ap₂ (λ (k l : List ℕ). is_less (lex_compare k l)) (ap (λ (n : ℕ). wider_key g n a) ex) (ap (λ (n : ℕ). wider_key g n b) ey)
