-- How many stations have reached a clock.
-- Assumes nothing.
use Prim.Native.Nat.{ℕ, suc, ◌≤◌, ◌<◌}
use native.Mathlib.Omega.{arith}
use mathlib.Core.Path.{◌≡◌, refl, sym, ap, ◌∙◌}
use mathlib.Core.Bool.{Bool, true, false, ◌&&◌, not}
use mathlib.Core.List.{List}
use mathlib.Core.Option.{some}
use lib.Dec.{leb}
use lib.ListN.{length, set, get_or, get_elem?}
use borrow.Author.Tests.{leb-true, le-leb}
use Rattle.laws.specs.Lists.{any, select}
use Rattle.laws.proofs.Numbers.{clash, and_intro, and_left, and_right, not_of_false, false-of-no}
use Rattle.laws.proofs.Lists.{count_of, count_of-among, count_of-set-same, count_of-set-gain, any-mem, select-none, get_elem?-mem, mem-get_elem?, get_elem?-lt, get_elem?-get_or}
use Rattle.model.specs.Run.{Node}
use Rattle.theory.proofs.World.{reached}

abbrev has : ℕ → Node → Bool
has x node = not node.listens && leb x node.clock

abbrev pub is_station : Node → Bool
is_station node = not node.listens

has-clock : (x : ℕ) (node : Node) → has x node ≡ true → x ≤ node.clock
has-clock x node h = leb-true _ _ (and_right (not node.listens) (leb x node.clock) h)

has-not : (x : ℕ) (node : Node) → node.clock < x → has x node ≡ false
has-not x node h = false-of-no (has x node) (λ t. omega (arith, has-clock x node t))

pub reached-some : (nodes : List Node) (x : ℕ) → 1 ≤ reached nodes x → (i : ℕ) × (node : Node) × (get_elem? nodes i ≡ some node) × (x ≤ node.clock)
unfolding reached count_of
reached-some nodes x h = go (any (has x) nodes) refl
  where
    go : (b : Bool) → any (has x) nodes ≡ b → (i : ℕ) × (node : Node) × (get_elem? nodes i ≡ some node) × (x ≤ node.clock)
    go true e =
        let r = any-mem (has x) nodes e in
        let q = mem-get_elem? r.1 in
        (q.0, r.0, q.1, has-clock x r.0 r.2)
    go false e =
        let z : length (select (has x) nodes) ≡ 0 = ap length (select-none (has x) nodes e) in
        let bad : ⊥ = omega arith in
        absurd bad

-- fewer than all stations, where one has not
pub reached-not-all :
    (nodes : List Node) (x i : ℕ) (node : Node) → get_elem? nodes i ≡ some node → node.listens ≡ false → node.clock < x
    → reached nodes x < count_of is_station nodes
unfolding reached
reached-not-all nodes x i node e station h =
    count_of-among (has x) is_station (λ y t. and_left (not y.listens) (leb x y.clock) t) (get_elem?-mem nodes i e)
    (has-not x node h) (not_of_false station)

-- a node's clock moves on, and it stays what it is
pub reached-grows :
    (nodes : List Node) (x i : ℕ) (node node' : Node) → get_elem? nodes i ≡ some node → node'.listens ≡ node.listens → node.clock ≤ node'.clock
    → reached nodes x ≤ reached (set nodes i node') x
unfolding reached
reached-grows nodes x i node node' e same h = go (has x node) (has x node') refl refl
  where
    old : get_or nodes i node ≡ node
    old = get_elem?-get_or nodes i node e

    go : (a b : Bool) → has x node ≡ a → has x node' ≡ b → count_of (has x) nodes ≤ count_of (has x) (set nodes i node')
    go true true p q =
        let r : count_of (has x) (set nodes i node') ≡ count_of (has x) nodes = count_of-set-same (has x) nodes i node' node (rw old (p ∙ sym q)) in
        omega arith
    go true false p q =
        let here : has x node' ≡ true =
        and_intro (ap not same ∙ and_left (not node.listens) (leb x node.clock) p) (le-leb x node'.clock (omega (arith, has-clock x node p))) in
        absurd (clash here q)
    go false true p q =
        let r : count_of (has x) (set nodes i node') ≡ suc (count_of (has x) nodes) = count_of-set-gain (has x) nodes i node' node (get_elem?-lt nodes i e) (rw old p) q in
        omega arith
    go false false p q =
        let r : count_of (has x) (set nodes i node') ≡ count_of (has x) nodes = count_of-set-same (has x) nodes i node' node (rw old (p ∙ sym q)) in
        omega arith

-- one station more has reached v
pub reached-gains :
    (nodes : List Node) (v i : ℕ) (node node' : Node) → get_elem? nodes i ≡ some node → node'.listens ≡ false → node.clock < v → v ≤ node'.clock
    → reached (set nodes i node') v ≡ suc (reached nodes v)
unfolding reached
reached-gains nodes v i node node' e station before after =
    count_of-set-gain (has v) nodes i node' node (get_elem?-lt nodes i e)
    (rw old (has-not v node (omega arith))) (and_intro (not_of_false station) (le-leb v node'.clock (omega arith)))
  where
    old : get_or nodes i node ≡ node
    old = get_elem?-get_or nodes i node e
