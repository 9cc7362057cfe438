-- Calls that lead to one another are in order: by their station, by what they take, and on through such steps. An observer's lead to none of a station.
-- Assumes nothing.
use Prim.Native.Nat.{Ordering}
use Prim.Native.Nat.{ℕ, zero, suc, ◌≤◌, ◌<◌}
use native.Mathlib.Omega.{arith}
use mathlib.Core.Path.{◌≡◌, refl, sym, ap, subst, ◌∙◌}
use mathlib.Core.Logic.{◌⊎◌, inl, inr}
use mathlib.Core.Bool.{true, false}
use mathlib.Core.List.{List, [], ◌∷◌}
use mathlib.Core.Option.{some}
use lib.ListN.{take, get_elem?}
use Rattle.laws.specs.Lex.{lex_compare}
use Rattle.laws.proofs.Numbers.{eq-or-ne}
use Rattle.laws.proofs.Lists.{get_elem?-lt}
use Rattle.laws.proofs.Lex.{lex-trans}
use Rattle.model.specs.Schedule.{Schedule}
use Rattle.model.specs.Run.{Node, Done, is_event}
use Rattle.theory.specs.Demand3.{Leads, later, takes, on}
use Rattle.theory.proofs.HearLoop.{some_inj}
use Rattle.theory.proofs.World.{event_key, AllKept, AllKinds, sends-event, event-accepted, event-kind, event-of}

-- a list's beginning
module _ {A : Type 0} where
  pub of-take : (j : ℕ) (l : List A) (k : ℕ) {x : A} → get_elem? (take j l) k ≡ some x → get_elem? l k ≡ some x
  of-take zero l k e = let z : k < 0 = get_elem?-lt [] k e in absurd (omega arith)
  of-take (suc j) [] k e = let z : k < 0 = get_elem?-lt [] k e in absurd (omega arith)
  of-take (suc j) (y ∷ l) zero e = e
  of-take (suc j) (y ∷ l) (suc k) e = of-take j l k e

  pub in_take : (j : ℕ) (l : List A) (k : ℕ) {x : A} → k < j → get_elem? l k ≡ some x → get_elem? (take j l) k ≡ some x
  in_take zero l k h e = absurd (omega arith)
  in_take (suc j) [] k h e = e
  in_take (suc j) (y ∷ l) zero h e = e
  in_take (suc j) (y ∷ l) (suc k) h e = in_take j l k (omega arith) e

  pub below-take : (j : ℕ) (l : List A) (k : ℕ) {x : A} → get_elem? (take j l) k ≡ some x → k < j
  below-take zero l k e = let z : k < 0 = get_elem?-lt [] k e in absurd (omega arith)
  below-take (suc j) [] k e = let z : k < 0 = get_elem?-lt [] k e in absurd (omega arith)
  below-take (suc j) (y ∷ l) zero e = omega arith
  below-take (suc j) (y ∷ l) (suc k) e = let h : k < j = below-take j l k e in omega arith

-- the later of two accepted calls of a station
module _ (g : Schedule) (from : ℕ) (nodes : List Node) (past : List Done) (kept : AllKept g from past) (kinds : AllKinds nodes past) where
  abbrev Less : Done → Done → Type 0
  Less a b = lex_compare (event_key g a) (event_key g b) ≡ Ordering.lt

  -- an accepted call of a station and its position
  record Made : Type 0 where
    at : ℕ
    done : Done
    is : get_elem? past at ≡ some done
    made : is_event done ≡ true

  station-order : (a b : Made) → a.done.node ≡ b.done.node → a.at < b.at → Less a.done b.done
  station-order a b o h =
      (kept b.at b.done b.is (event-accepted b.done b.made)).later b.made a.at a.done (in_take b.at past a.at h a.is) a.made o

  same-made : (a b : Made) → a.at ≡ b.at → a.done ≡ b.done
  same-made a b e = some_inj (sym a.is ∙ (ap (get_elem? past) e ∙ b.is))

  not-before : (a b : Made) → a.done.node ≡ b.done.node → a.at ≤ b.at → (c : Done) → Less b.done c → Less a.done c
  not-before a b o h c l =
      elim (eq-or-ne a.at b.at) [
        | inl e ↦ subst (λ (d : Done). Less d c) (sym (same-made a b e)) l
        | inr e ↦ lex-trans (event_key g a.done) (event_key g b.done) (event_key g c) (station-order a b o (omega arith)) l
      ]

  not_after : (a b : Made) → a.done.node ≡ b.done.node → a.at ≤ b.at → (c : Done) → Less c a.done → Less c b.done
  not_after a b o h c l =
      elim (eq-or-ne a.at b.at) [
        | inl e ↦ subst (Less c) (same-made a b e) l
        | inr e ↦ lex-trans (event_key g c) (event_key g a.done) (event_key g b.done) l (station-order a b o (omega arith))
      ]

  -- an accepted call of the first's station, not before it, comes before one of the second's station, not after it
  record Jump (i j : ℕ) (a b : Done) : Type 0 where
    out : Made
    into : Made
    out-node : a.node ≡ out.done.node
    into-node : into.done.node ≡ b.node
    out-after : i ≤ out.at
    into-before : into.at ≤ j
    less : Less out.done into.done

  jump-wide : {i j i' j' : ℕ} {a b a' b' : Done} → Jump i j a b → a'.node ≡ a.node → b.node ≡ b'.node → i' ≤ i → j ≤ j' → Jump i' j' a' b'
  jump-wide p o q h k =
      record {
        out = p.out;
        into = p.into;
        out-node = o ∙ p.out-node;
        into-node = p.into-node ∙ q;
        out-after = omega (arith, p.out-after);
        into-before = omega (arith, p.into-before);
        less = p.less;
      }

  jump-on : {i j k : ℕ} {a b b' c : Done} → Jump i j a b → Jump j k b' c → b.node ≡ b'.node → Jump i k a c
  jump-on {c = c} p q o =
      record {
        out = p.out;
        into = q.into;
        out-node = p.out-node;
        into-node = q.into-node;
        out-after = p.out-after;
        into-before = q.into-before;
        less =
            lex-trans (event_key g p.out.done) (event_key g p.into.done) (event_key g q.into.done) p.less
            (not-before p.into q.out (p.into-node ∙ (o ∙ q.out-node)) (omega (arith, p.into-before, q.out-after)) q.into.done q.less);
      }

  -- a later call of the same station, or a jump
  abbrev Way : ℕ → ℕ → Done → Done → Type 0
  Way i j a b = ((i < j) × (a.node ≡ b.node)) ⊎ Jump i j a b

  record Chain (i j : ℕ) : Type 0 where
    first : Done
    second : Done
    first-is : get_elem? past i ≡ some first
    second_is : get_elem? past j ≡ some second
    way : Way i j first second

  way_on : {i j k : ℕ} {a b b' c : Done} → b.node ≡ b'.node → Way i j a b → Way j k b' c → Way i k a c
  way_on o (inl p) (inl q) = inl (omega (arith, p.0, q.0), p.1 ∙ (o ∙ q.1))
  way_on o (inl p) (inr q) = inr (jump-wide q (p.1 ∙ o) refl (omega (arith, p.0)) (omega arith))
  way_on o (inr p) (inl q) = inr (jump-wide p refl (o ∙ q.1) (omega arith) (omega (arith, q.0)))
  way_on o (inr p) (inr q) = inr (jump-on p q o)

  chain-on : {i j k : ℕ} → Chain i j → Chain j k → Chain i k
  chain-on c d =
      record {
        first = c.first;
        second = d.second;
        first-is = c.first-is;
        second_is = d.second_is;
        way = way_on (ap (λ (x : Done). x.node) (some_inj (sym c.second_is ∙ d.first-is))) c.way d.way;
      }

  -- calls of one node are all an observer's, or none
  same_kind : (i j : ℕ) (a b : Done) → get_elem? past i ≡ some a → get_elem? past j ≡ some b → a.node ≡ b.node → a.listens ≡ b.listens
  same_kind i j a b p q e =
      let x = kinds i a p in
      let y = kinds j b q in
      let one : x.0 ≡ y.0 = some_inj (sym x.1 ∙ (ap (get_elem? nodes) e ∙ y.1)) in
      sym x.2 ∙ (ap (λ (node : Node). node.listens) one ∙ y.2)

  -- what leads to a station's call is a station's
  first_kind : {i j : ℕ} (c : Chain i j) → c.second.listens ≡ false → c.first.listens ≡ false
  first_kind {i} {j} c station = go c.way
    where
      go : Way i j c.first c.second → c.first.listens ≡ false
      go (inl h) = same_kind i j c.first c.second c.first-is c.second_is h.1 ∙ station
      go (inr h) =
          same_kind i h.out.at c.first h.out.done c.first-is h.out.is h.out-node ∙ event-kind h.out.done h.out.made

  chain-of : {i j : ℕ} → Leads past i j → (b : Done) → get_elem? past j ≡ some b → b.listens ≡ false → Chain i j
  chain-of (later {i} {j} {a} {b} h p q o) d d-at station = record { first = a; second = b; first-is = p; second_is = q; way = inl (h, o) }
  chain-of (takes {i} {j} {b} e q acc at zero-at) d d-at station =
      let k = kept j b q acc in
      let r = k.sent-before e i at in
      let p : get_elem? past i ≡ some r.0 = of-take j past i r.1 in
      let here : is_event b ≡ true = event-of b acc (ap (λ (x : Done). x.listens) (some_inj (sym q ∙ d-at)) ∙ station) in
      record {
        first = r.0;
        second = b;
        first-is = p;
        second_is = q;
        way =
            inr (record {
              out = record { at = i; done = r.0; is = p; made = sends-event r.0 r.2 };
              into = record { at = j; done = b; is = q; made = here };
              out-node = refl;
              into-node = refl;
              out-after = omega arith;
              into-before = omega arith;
              less = k.takes here e i r.0 at r.1 zero-at;
            });
      }
  chain-of (on {i} {j} {k} p q) d d-at station =
      let c = chain-of q d d-at station in
      let last : c.second.listens ≡ false = ap (λ (x : Done). x.listens) (some_inj (sym c.second_is ∙ d-at)) ∙ station in
      chain-on (chain-of p c.first c.first-is (first_kind c last)) c

  pub leads-less :
      (i j : ℕ) (a b : Done) → Leads past i j → get_elem? past i ≡ some a → get_elem? past j ≡ some b → is_event a ≡ true → is_event b ≡ true → Less a b
  leads-less i j a b l p q x y = go c.way
    where
      c : Chain i j
      c = chain-of l b q (event-kind b y)

      from-a : Made
      from-a = record { at = i; done = a; is = p; made = x }

      to-b : Made
      to-b = record { at = j; done = b; is = q; made = y }

      e : c.first.node ≡ a.node
      e = ap (λ (d : Done). d.node) (some_inj (sym c.first-is ∙ p))

      f : c.second.node ≡ b.node
      f = ap (λ (d : Done). d.node) (some_inj (sym c.second_is ∙ q))

      go : Way i j c.first c.second → Less a b
      go (inl h) = station-order from-a to-b (sym e ∙ (h.1 ∙ f)) h.0
      go (inr h) =
          not_after h.into to-b (h.into-node ∙ f) h.into-before a
          (not-before from-a h.out (sym e ∙ h.out-node) h.out-after h.into.done h.less)
