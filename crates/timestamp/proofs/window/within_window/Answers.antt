-- `timestamp::window::within_window` meets its contract: the loop's invariant: nothing lies past its limit if the counts passed are within theirs.
-- Assumes nothing.
use Prim.Native.Nat.{ℕ, ◌+◌, ◌-◌, ◌≤◌, ◌<◌}
use mathlib.Core.Path.{◌≡◌, ap, ◌∙◌}
use Rattle.std.proofs.lemmas.List.{length_push}
use native.Mathlib.Omega.{arith}
use lib.ListN.{length, get_or}
use denote.Ref.{Bor}
use Rattle.std.proofs.iter.Yields.{fronts}
use Rattle.std.proofs.lemmas.Iterator.{zips, YieldsList-from_slice, YieldsList, YieldsList-from_zip}
use Rattle.std.proofs.lemmas.Iterator.Consumers.{YieldsList-turn, YieldsList-end}
use Rattle.timestamp.proofs.Windows.{window-start, window-next, window-end, rows, rows-long, rows-at}
use Rattle.timestamp.proofs.window.within_window.Goals.{At-loop-count}
use Rattle.timestamp.proofs.window.within_window.Goals as goal

pub loop-count-init : goal.loop-count-init
loop-count-init c =
    let a = c.args in
    λ n epsilon narrow h e. window-start n epsilon a.top a.kn.now a.ceilings.now narrow h c.requires.0 e

-- what the loop goes over
road : (c : At-loop-count) → let a = c.args in YieldsList (zips fronts (zips fronts fronts)) (λ (p : Bor ℕ × (Bor ℕ × Bor ℕ)). (p.0.now, (p.1.0.now, p.1.1.now))) c.into_iter-count-iterator.result (rows a.kn.now a.ceilings.now a.top c.requires.0 c.requires.1.0 c.requires.1.1)
road c = YieldsList-from_zip (YieldsList-from_slice _ cc) (YieldsList-from_zip (YieldsList-from_slice _ cc) (YieldsList-from_slice _ cc))

pub loop-count-preserved : goal.loop-count-preserved
loop-count-preserved c =
    let a = c.args in
    let l = c.loop-count in
    let x = c.in-Some in
    let i = length l.yielded in
    let t = YieldsList-turn (road (goal.at.loop-count-preserved c).At-loop-count) l.yielded l.count-iterator l.yielded_by c.next.result c.next.new.self (x.count, (x.limit, x.other)) x.is c.next.ensures.steps in
    let e = t.1 ∙ rows-at a.kn.now a.ceilings.now a.top c.requires.0 c.requires.1.0 c.requires.1.1 i _ t.0 in
    let count : x.count.now ≡ get_or a.kn.now i 0 = ap (λ (p : ℕ × (ℕ × ℕ)). p.0) e in
    let limit : x.limit.now ≡ get_or a.ceilings.now (31 - a.top + i) 0 = ap (λ (p : ℕ × (ℕ × ℕ)). p.1.0) e in
    let other : x.other.now ≡ get_or a.ceilings.now (64 + i) 0 = ap (λ (p : ℕ × (ℕ × ℕ)). p.1.1) e in
    let byte : get_or a.kn.now i 0 ≤ 255 = omega (arith, c.type_inv.kn i) in
    let inside : i < 32 = omega (arith, t.0, rows-long a.kn.now a.ceilings.now a.top c.requires.0 c.requires.1.0 c.requires.1.1) in
    λ n epsilon narrow h f.
    rw (length_push l.yielded (x.count, (x.limit, x.other)))
    (window-next n epsilon a.top a.kn.now a.ceilings.now narrow h c.requires.0 f i l.over c.max.result c.saturating_sub-over.result inside byte
    (rw (← limit, ← other) c.max.ensures) (rw (← count) c.saturating_sub-over.ensures) (l.invariant n epsilon narrow h f))

pub returns : goal.returns
returns c =
    let a = c.args in
    let l = c.loop-count in
    let t = YieldsList-end (road (goal.at.returns c).At-loop-count) l.yielded l.count-iterator l.yielded_by c.next.result c.next.new.self c.in-None.is c.next.ensures.steps in
    let all : 32 ≤ length l.yielded = omega (arith, t.1, rows-long a.kn.now a.ceilings.now a.top c.requires.0 c.requires.1.0 c.requires.1.1) in
    λ n epsilon narrow h e. window-end n epsilon a.top a.kn.now a.ceilings.now narrow h c.requires.0 e (length l.yielded) l.over all (l.invariant n epsilon narrow h e)
