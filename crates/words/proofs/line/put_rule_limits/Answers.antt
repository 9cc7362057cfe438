-- `words::line::put_rule_limits` meets its contract. Assumes nothing.
use mathlib.Core.Path.{◌≡◌, refl, sym, ap}
use mathlib.Core.List.{List, [], ◌∷◌, ◌++◌, map}
use Prim.Native.Nat.{ℕ, zero, suc}
use native.Mathlib.Omega.{arith}
use lib.ListN.{take}
use lib.Seq.{take_all}
use Rattle.text.proofs.Putting.{put_as, room_as, ahead, ahead-as, ahead-first, ahead-next}
use Rattle.text.specs.Text.{field, decimal, space, newline}
use Rattle.words.specs.Words.{spaced}
use Rattle.words.specs.Answers.{shown}
use Rattle.words.specs.declared.line.RuleLimits.{RuleLimits}
use Rattle.words.proofs.line.put_rule_limits.Goals as goal

-- by how many there are
abbrev texted : List ℕ → List ℕ
texted l = spaced (map decimal l)

none : (l : RuleLimits) → l.count ≡ 0 → newline ≡ texted (shown l)
unfolding spaced
none l e = ap (λ (k : ℕ). texted (take k (l.first ∷ l.second ∷ []))) (sym e)

single : (l : RuleLimits) → l.count ≡ 1 → texted (shown l) ≡ field space l.first ++ newline
unfolding spaced field
single l e = ap (λ (k : ℕ). texted (take k (l.first ∷ l.second ∷ []))) e

-- the first and what follows it, where there is one
first_of : (l : RuleLimits) → (l.count ≡ 0 → ⊥) → (rest : List ℕ) × (texted (shown l) ≡ field space l.first ++ rest)
unfolding spaced field
first_of l h = go l.count h
  where
    go : (k : ℕ) → (k ≡ 0 → ⊥) → (rest : List ℕ) × (texted (take k (l.first ∷ l.second ∷ [])) ≡ field space l.first ++ rest)
    go zero z = absurd (z refl)
    go (suc k) z = (texted (take k (l.second ∷ [])), refl)

both : (l : RuleLimits) → (l.count ≡ 0 → ⊥) → (l.count ≡ 1 → ⊥) → texted (shown l) ≡ field space l.first ++ (field space l.second ++ newline)
unfolding spaced field
both l h k = ap texted (take_all l.count (l.first ∷ l.second ∷ []) (omega arith))

pub put_word-requires : goal.put_word-requires
put_word-requires c = room_as c.args.buf.now c.args.at (none c.args.l c.if-l-eq0.true) c.requires

pub returns-then-l-eq0 : goal.returns-then-l-eq0
returns-then-l-eq0 c = put_as (none c.args.l c.if-l-eq0.true) c.put_word.ensures

pub put_field-after_first-requires : goal.put_field-after_first-requires
put_field-after_first-requires c =
    let more = first_of c.args.l c.if-l-eq0.false in
    ahead-first (field space c.args.l.first) more.0 (ahead-as more.1 (ahead c.args.buf.now c.args.at (texted (shown c.args.l)) c.requires))

pub put_word-requires-then-l-eq1 : goal.put_word-requires-then-l-eq1
put_word-requires-then-l-eq1 c =
    let s0 = ahead-as (single c.args.l c.if-l-eq1.true) (ahead c.args.buf.now c.args.at (texted (shown c.args.l)) c.requires) in
    (ahead-next (field space c.args.l.first) newline s0 c.put_field-after_first.ensures).room

pub returns-then-l-eq1 : goal.returns-then-l-eq1
returns-then-l-eq1 c =
    let s0 = ahead-as (single c.args.l c.if-l-eq1.true) (ahead c.args.buf.now c.args.at (texted (shown c.args.l)) c.requires) in
    (ahead-next (field space c.args.l.first) newline s0 c.put_field-after_first.ensures).done c.put_word-then-l-eq1.ensures

pub put_field-after_second-requires : goal.put_field-after_second-requires
put_field-after_second-requires c =
    let s0 = ahead-as (both c.args.l c.if-l-eq0.false c.if-l-eq1.false) (ahead c.args.buf.now c.args.at (texted (shown c.args.l)) c.requires) in
    let s1 = ahead-next (field space c.args.l.first) ((field space c.args.l.second) ++ newline) s0 c.put_field-after_first.ensures in
    ahead-first (field space c.args.l.second) newline s1

pub put_word-requires-2 : goal.put_word-requires-2
put_word-requires-2 c =
    let s0 = ahead-as (both c.args.l c.if-l-eq0.false c.if-l-eq1.false) (ahead c.args.buf.now c.args.at (texted (shown c.args.l)) c.requires) in
    let s1 = ahead-next (field space c.args.l.first) ((field space c.args.l.second) ++ newline) s0 c.put_field-after_first.ensures in
    (ahead-next (field space c.args.l.second) newline s1 c.put_field-after_second.ensures).room

pub returns : goal.returns
returns c =
    let s0 = ahead-as (both c.args.l c.if-l-eq0.false c.if-l-eq1.false) (ahead c.args.buf.now c.args.at (texted (shown c.args.l)) c.requires) in
    let s1 = ahead-next (field space c.args.l.first) ((field space c.args.l.second) ++ newline) s0 c.put_field-after_first.ensures in
    (ahead-next (field space c.args.l.second) newline s1 c.put_field-after_second.ensures).done c.put_word-2.ensures
