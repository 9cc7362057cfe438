-- A count named by its clock, and a comparison in numbers. Assumes nothing.
use Prim.Native.Nat.{Ordering}
use Prim.Native.Nat.{ℕ, ◌+◌, ◌≤◌}
use native.Mathlib.Omega.{arith}
use mathlib.Core.Path.{◌≡◌, refl, sym, ap, ap₂, subst, ◌∙◌}
use mathlib.Core.List.{List}
use mathlib.Core.Logic.{◌⊎◌, inl, inr}
use Rattle.model.specs.Setup.{Setup}
use Rattle.model.specs.Timestamp.{sum}
use Rattle.model.specs.Frame.{Frame}
use Rattle.model.specs.Order.{key_by}
use Rattle.model.specs.Comparison.{reason_at, compare_keys, count_clock, clocked, at_clocks, compared, by_sum, by_count, by_station, by_r, by_nothing, reason_number, reason_clock, compare_by}
use Rattle.model.specs.Comparison as model
use Rattle.lemmas.proofs.Comparing.{count-among}
use Rattle.timestamp.specs.declared.ordering.Reason.{Reason}
use Rattle.timestamp.specs.declared.ordering.Reason.TheVariants.{Sum, Count, Station, R}
use Rattle.timestamp.specs.declared.ordering.Comparison.{Comparison}
use Rattle.timestamp.specs.declared.ordering.Comparison.TheVariants.{First, Second, Alike}
use Rattle.timestamp.specs.declared.ordering.Rank.{Rank}
use Rattle.timestamp.specs.Ranks.{reason_of, comparison_of, ranked_frame}
use Rattle.holdback.specs.Queue.{rank_of}
use Rattle.holdback.proofs.Testing.{key-ranked}
use Rattle.comparing.specs.Counted.{Counted}

-- the tag of a count, by which a match tells it from the others
pub record Tags : Type 0 where
  pub tag : Reason → ℕ
  pub at_count : (k : ℕ) → tag (Count k) ≡ 1

-- other reasons stay
pub stays : (tags : Tags) (clock : ℕ → ℕ) (r : Reason) → (tags.tag r ≡ 0) ⊎ ((tags.tag r ≡ 2) ⊎ (tags.tag r ≡ 3)) → reason_of r ≡ clocked clock (reason_of r)
stays tags clock Sum h = refl
stays tags clock (Count k) (inl h) = absurd (omega (arith, tags.at_count k))
stays tags clock (Count k) (inr (inl h)) = absurd (omega (arith, tags.at_count k))
stays tags clock (Count k) (inr (inr h)) = absurd (omega (arith, tags.at_count k))
stays tags clock Station h = refl
stays tags clock R h = refl

-- a count is named by its clock
pub named : (clock : ℕ → ℕ) (r : Reason) (k x : ℕ) → r ≡ Count k → x ≡ clock k → by_count x ≡ clocked clock (reason_of r)
named clock r k x e h = ap by_count h ∙ sym (ap (λ (q : Reason). clocked clock (reason_of q)) e)

pub counted-count : (total : ℕ) (r : Reason) (k : ℕ) → r ≡ Count k → Counted total (reason_of r) → k ≤ total
counted-count total r k e h = subst (λ (q : Reason). Counted total (reason_of q)) e h

module _ (o : Comparison) (reason : Reason) where
  pub counted-first : (total : ℕ) → o ≡ First reason → Counted total (comparison_of o).reason → Counted total (reason_of reason)
  counted-first total e h = subst (λ (q : Comparison). Counted total (comparison_of q).reason) e h

  pub counted-second : (total : ℕ) → o ≡ Second reason → Counted total (comparison_of o).reason → Counted total (reason_of reason)
  counted-second total e h = subst (λ (q : Comparison). Counted total (comparison_of q).reason) e h

  module _ (clock : ℕ → ℕ) (r : Reason) (h : reason_of r ≡ clocked clock (reason_of reason)) where
    pub named-first : o ≡ First reason → comparison_of (First r) ≡ at_clocks clock (comparison_of o)
    named-first e =
        ap (λ (x : model.Reason). record { order = Ordering.lt; reason = x }) h
        ∙ sym (ap (λ (q : Comparison). at_clocks clock (comparison_of q)) e)

    pub named-second : o ≡ Second reason → comparison_of (Second r) ≡ at_clocks clock (comparison_of o)
    named-second e =
        ap (λ (x : model.Reason). record { order = Ordering.gt; reason = x }) h
        ∙ sym (ap (λ (q : Comparison). at_clocks clock (comparison_of q)) e)

pub named-alike : (o : Comparison) (clock : ℕ → ℕ) → o ≡ Alike → comparison_of Alike ≡ at_clocks clock (comparison_of o)
named-alike o clock e = sym (ap (λ (q : Comparison). at_clocks clock (comparison_of q)) e)

-- a count that decides is not further back than clock 0
counted-at : (epsilon at total : ℕ) (reason : model.Reason) → reason ≡ reason_at epsilon at → epsilon ≤ total → Counted total reason
counted-at epsilon at total by_sum e h = tt
counted-at epsilon at total (by_count k) e h = omega (arith, count-among epsilon at k (sym e))
counted-at epsilon at total by_station e h = tt
counted-at epsilon at total by_r e h = tt
counted-at epsilon at total by_nothing e h = tt

pub counted-keys : (epsilon total : ℕ) (a b : List ℕ) (c : model.Comparison) → c ≡ compare_keys epsilon a b → epsilon ≤ total → Counted total c.reason
unfolding compare_keys
counted-keys epsilon total a b c e h = counted-at epsilon _ total c.reason (ap (λ (d : model.Comparison). d.reason) e) h

-- by ranks and counts as by the frames themselves
pub by-ranks : (s : Setup) (v : ℕ) (f g : Frame) (rf rg : Rank) (kf kg : List ℕ) → rf ≡ rank_of s v f → kf ≡ f.stamp.kn → rg ≡ rank_of s v g → kg ≡ g.stamp.kn
    → (c : model.Comparison)
    → c ≡ compare_keys s.epsilon (key_by s.epsilon rf.reading (ranked_frame rf kf)) (key_by s.epsilon rg.reading (ranked_frame rg kg))
    → at_clocks (count_clock s v (rf.reading + rf.c)) c ≡ compared s v f g
unfolding compared sum
by-ranks s v f g rf rg kf kg ef ek eg el c e =
    ap₂ (λ (total : ℕ) (d : model.Comparison). at_clocks (count_clock s v total) d)
    (ap (λ (q : Rank). q.reading + q.c) ef)
    (e ∙ ap₂ (λ (a b : List ℕ). compare_keys s.epsilon a b) (key-ranked s v f rf kf ef ek) (key-ranked s v g rg kg eg el))

-- ---- in numbers

module _ (o : Comparison) (reason : Reason) where
  pub numbers-first : o ≡ First reason → {number clock : ℕ} → number ≡ reason_number (reason_of reason) → clock ≡ reason_clock (reason_of reason)
      → record { number = 0; order = 0; reason = number; clock = clock } ≡ compare_by 0 (comparison_of o)
  numbers-first e en ec = rw (e, en, ec)

  pub numbers-second : o ≡ Second reason → {number clock : ℕ} → number ≡ reason_number (reason_of reason) → clock ≡ reason_clock (reason_of reason)
      → record { number = 0; order = 1; reason = number; clock = clock } ≡ compare_by 0 (comparison_of o)
  numbers-second e en ec = rw (e, en, ec)

pub numbers-alike : (o : Comparison) → o ≡ Alike → record { number = 0; order = 2; reason = 0; clock = 0 } ≡ compare_by 0 (comparison_of o)
numbers-alike o e = rw e
