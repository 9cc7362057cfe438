-- The pair of a width, the pairs of a call, and V as a reading. Assumes nothing.
use Prim.Native.Nat.{ℕ, ◌+◌, ◌-◌, ◌*◌, ◌≤◌, ◌<◌}
use native.Mathlib.Omega.{arith}
use mathlib.Core.Path.{◌≡◌, refl, sym, ap, subst, ◌∙◌}
use mathlib.Core.Bool.{Bool, true, false, ◌&&◌, cond}
use mathlib.Core.List.{List, [], ◌∷◌}
use lib.Dec.{leb, ltb, eqb}
use borrow.Author.Tests.{eq-eqb, ne_eqb, eqb-true}
use Rattle.laws.specs.Lists.{every}
use Rattle.laws.proofs.Numbers.{and_left, and_right, and_intro}
use Rattle.model.specs.Setup.{Setup, width, in_limits, is_member}
use Rattle.model.specs.Timestamp.{ahead}
use Rattle.model.specs.Question.{Question, ask, first_no}
use Rattle.model.specs.Schedule.{Schedule, steady, widening, Wider, both_in_limits, ask_both, ask_wider, change_ahead, change_behind, change_near, same_pairs, along, own_limits, side_of, is_marked, wider_setup, half_of, modulus_of, widest_of}
use Rattle.lemmas.proofs.Bounds.{Limits}
use Rattle.lemmas.proofs.Reading.{ahead-below}
use Rattle.lemmas.proofs.Questions.{first-yes, other-yes, no-cons, yes-cons, no-append, yes-append, limits-to}
use Rattle.lemmas.proofs.Schedules.{Good, side-own}
use Rattle.lemmas.proofs.WiderCall.{BothPairs, both-from}
use Rattle.pairs.specs.Views.{schedule_of, pair_of, Paired, Near}
use Rattle.pairs.specs.declared.limits.Pairs.{Pairs}

-- ---- the pair of a width

-- its ε is half that width
pub pair-half : (g : Schedule) (count : ℕ) → (pair_of g count).epsilon ≡ half_of g count
pair-half (steady s) count = refl
pair-half (widening before after change) count = go (eqb count (width after.epsilon))
  where
    go : (b : Bool) → (cond b after before).epsilon ≡ cond b after.epsilon before.epsilon
    go true = refl
    go false = refl

-- it is in 01's limits, with the n and B of both
pub pair-good : (g : Schedule) → Good g → (count : ℕ) → Limits (pair_of g count)
pair-good (steady s) good count = good
pair-good (widening before after change) good count = go (eqb count (width after.epsilon))
  where
    go : (b : Bool) → Limits (cond b after before)
    go true = good.new
    go false = good.old

pub pair-n : (g : Schedule) → Good g → (count : ℕ) → (pair_of g count).n ≡ (widest_of g).n
pair-n (steady s) good count = refl
pair-n (widening before after change) good count = go (eqb count (width after.epsilon))
  where
    go : (b : Bool) → (cond b after before).n ≡ after.n
    go true = refl
    go false = sym good.n

pub pair-modulus : (g : Schedule) → Good g → (count : ℕ) → (pair_of g count).modulus ≡ modulus_of g
pair-modulus (steady s) good count = refl
pair-modulus (widening before after change) good count = go (eqb count (width after.epsilon))
  where
    go : (b : Bool) → (cond b after before).modulus ≡ before.modulus
    go true = good.modulus
    go false = refl

-- ---- the pairs of a call

pub near-good : (p : Pairs) (s : Setup) (w : Wider) (v : ℕ) → BothPairs s w → Near p s w v → Paired p
near-good p s w v both near = subst Good (sym near.schedule) both.widens

-- where the pairs differ they are model's
pub near-along : (p : Pairs) (s : Setup) (w : Wider) (v : ℕ) → same_pairs s w ≡ false → Near p s w v → schedule_of p ≡ along s w v
unfolding along
near-along p s w v differ near = near.schedule ∙ rw differ

-- ---- V as a reading

pub change-marked : (B v : ℕ) (w : Wider) → w.marked ≡ 1 → B - ahead B w.change v ≡ change_near B v w
unfolding change_near change_behind
change-marked B v w h = rw (eq-eqb w.marked 1 h)

pub change-whole : (B v : ℕ) (w : Wider) → (w.marked ≡ 1 → ⊥) → ahead B v w.change ≡ 0 → 2 * B ≡ change_near B v w
unfolding change_near change_ahead
change-whole B v w h e = rw (ne_eqb w.marked 1 h, eq-eqb (ahead B v w.change) 0 e) (omega arith)

pub change-part : (B v : ℕ) (w : Wider) → (w.marked ≡ 1 → ⊥) → (ahead B v w.change ≡ 0 → ⊥) → B + ahead B v w.change ≡ change_near B v w
unfolding change_near change_ahead
change-part B v w h e = rw (ne_eqb w.marked 1 h, ne_eqb (ahead B v w.change) 0 e)

-- it is no further than 2B
pub change-most : (B v : ℕ) (w : Wider) → 0 < B → change_near B v w ≤ 2 * B
unfolding change_near change_ahead
change-most B v w pos = go (eqb w.marked 1) (eqb (ahead B v w.change) 0)
  where
    go : (b d : Bool) → cond b (B - change_behind B v w.change) (B + cond d B (ahead B v w.change)) ≤ 2 * B
    go true d = omega arith
    go false true = omega arith
    go false false = omega (arith, ahead-below B v w.change pos)

-- ---- the questions

-- 1 with the own number, before any others
pub both-no : (s : Setup) (w : Wider) (own : ℕ) (qs : List Question) → (both_in_limits s w && ltb own s.n) ≡ false → first_no (ask_both s w own ∷ qs) ≡ 1
unfolding ask_both is_member
both-no s w own qs h = no-cons (both_in_limits s w && ltb own s.n) 1 qs h

pub both_yes : (s : Setup) (w : Wider) (own : ℕ) (qs : List Question) → both_in_limits s w ≡ true → ltb own s.n ≡ true → first_no (ask_both s w own ∷ qs) ≡ first_no qs
unfolding ask_both is_member
both_yes s w own qs h m = yes-cons (both_in_limits s w && ltb own s.n) 1 qs (rw (h, m))

-- what a setup has that passes 1 and 19, with the own number or without
pub both-passed : (s : Setup) (w : Wider) (own : ℕ) (qs : List Question) → first_no (ask_both s w own ∷ ask_wider s w ∷ qs) ≡ 0 → BothPairs s w × (first_no qs ≡ 0)
unfolding ask_both ask_wider is_member
both-passed s w own qs e =
    let wide = leb s.epsilon w.epsilon && leb s.delta w.delta in
    let asked = both_in_limits s w && ltb own s.n in
    let e₁ = other-yes asked 0 (ask wide 19 ∷ qs) e in
    (both-from s w (and_left (both_in_limits s w) (ltb own s.n) (first-yes asked 0 (ask wide 19 ∷ qs) e)) (first-yes wide 18 qs e₁), other-yes wide 18 qs e₁)

pub pairs-passed : (s : Setup) (w : Wider) (qs : List Question) → first_no (ask (both_in_limits s w) 1 ∷ ask_wider s w ∷ qs) ≡ 0 → BothPairs s w × (first_no qs ≡ 0)
unfolding ask_wider
pairs-passed s w qs e =
    let wide = leb s.epsilon w.epsilon && leb s.delta w.delta in
    let e₁ = other-yes (both_in_limits s w) 0 (ask wide 19 ∷ qs) e in
    (both-from s w (first-yes (both_in_limits s w) 0 (ask wide 19 ∷ qs) e) (first-yes wide 18 qs e₁), other-yes wide 18 qs e₁)

-- with others behind 1 and 19: a no of these ends it, and where they get a yes the others are asked
module _ (s : Setup) (w : Wider) (own : ℕ) (qs : List Question) where
  pub refused-others : (k : ℕ) → k ≡ first_no (ask_both s w own ∷ ask_wider s w ∷ []) → (k ≡ 0 → ⊥) → k ≡ first_no (ask_both s w own ∷ ask_wider s w ∷ qs)
  refused-others k e h = no-append (ask_both s w own ∷ ask_wider s w ∷ []) qs k e h

  pub passed-others : 0 ≡ first_no (ask_both s w own ∷ ask_wider s w ∷ []) → first_no (ask_both s w own ∷ ask_wider s w ∷ qs) ≡ first_no qs
  unfolding ask_both ask_wider every
  passed-others e = yes-append (ask_both s w own ∷ ask_wider s w ∷ []) qs refl (sym e)

-- both pairs are in their limits, and the own number is one of both: what 1 and 19 say
pub record Asked (s : Setup) (w : Wider) (own : ℕ) : Type 0 where
  pub both : BothPairs s w
  pub member : is_member s own ≡ true

pub asked-from : (s : Setup) (w : Wider) (own : ℕ) → 0 ≡ first_no (ask_both s w own ∷ ask_wider s w ∷ []) → Asked s w own
unfolding ask_both
asked-from s w own e =
    record {
      both = (both-passed s w own [] (sym e)).0;
      member = and_right (both_in_limits s w) (is_member s own) (first-yes (both_in_limits s w && is_member s own) 0 (ask_wider s w ∷ []) (sym e));
    }

-- so 1 of a plain call with a pair in its limits gets a yes
pub pair-valid : (s : Setup) (w : Wider) (own : ℕ) (side : Setup) → Asked s w own → Limits side → side.n ≡ s.n → (in_limits side && is_member side own) ≡ true
unfolding is_member
pair-valid s w own side asked limits e = and_intro (limits-to side limits) (ap (ltb own) e ∙ asked.member)

-- ---- the side of the mark

-- the limits of a clock are those of the mark's side; equal pairs have one width
pub fresh-side : (s : Setup) (w : Wider) (v : ℕ) → 0 < s.modulus → (own_limits (along s w v)).epsilon ≡ (side_of s w).epsilon
unfolding along same_pairs
fresh-side s w v pos = go (same_pairs s w) refl
  where
    same : same_pairs s w ≡ true → w.epsilon ≡ s.epsilon
    same e = eqb-true w.epsilon s.epsilon (and_left (eqb w.epsilon s.epsilon) (eqb w.delta s.delta) e)

    by-mark : (b : Bool) → w.epsilon ≡ s.epsilon → s.epsilon ≡ (cond b (wider_setup s w) s).epsilon
    by-mark true e = sym e
    by-mark false e = refl

    go : (b : Bool) → same_pairs s w ≡ b → (own_limits (along s w v)).epsilon ≡ (side_of s w).epsilon
    go true e = rw e (by-mark (is_marked w) (same e))
    go false e = ap (λ (u : Setup). u.epsilon) (side-own s w v pos e)

pub side-n : (s : Setup) (w : Wider) → (side_of s w).n ≡ s.n
side-n s w = go (is_marked w)
  where
    go : (b : Bool) → (cond b (wider_setup s w) s).n ≡ s.n
    go true = refl
    go false = refl

pub side-good : (s : Setup) (w : Wider) → BothPairs s w → Limits (side_of s w)
side-good s w both = go (is_marked w)
  where
    go : (b : Bool) → Limits (cond b (wider_setup s w) s)
    go true = both.widens.new
    go false = both.widens.old
