-- 02, 2.10: calls with both pairs of limits, from memories of any kind, by computation; and next clocks for which what they leave is sound.
-- Assumes nothing.
use Prim.Native.Nat.{ℕ}
use mathlib.Core.Path.{◌≡◌, refl}
use mathlib.Core.Bool.{true}
use mathlib.Core.List.{List, [], ◌∷◌, map}
use lib.ListN.{length}
use borrow.Author.Tests.{leb-true, ltb-true}
use Rattle.model.specs.Tick.{Input}
use Rattle.model.specs.Observer.{Listening}
use Rattle.model.specs.Schedule.{along}
use Rattle.model.specs.Wider.{wider_held_bytes, wider_tables_sound, wider_sound_holdback, tick_in}
use Rattle.model.specs.WiderCalls.{listen_in}
use Rattle.theory.specs.WiderAny.{NextClock, next_along}
use Rattle.theory.proofs.WiderAny.{demand2-in}
use Rattle.violations.specs.Through.{season}
use Rattle.violations.specs.Both.{pair_at, quiet_at14, quiet_at16, replaced_at30, holds_both_at19, hands_both_at20, twice_at20, packed_at20, twice_listening, packed_listening}
use Rattle.violations.proofs.Telling.{telling}

-- what came of a call for a true clock: the number, mend, frames taken and handed out, and bytes sent
abbrev figures : ℕ → Input → List ℕ
figures v i =
    let o = (tick_in (pair_at v) i).answer in
    o.number ∷ o.repair ∷ o.taken ∷ o.delivered ∷ o.sent ∷ []

pub both-figures :
    (figures 14 quiet_at14 ∷ figures 16 quiet_at16 ∷ figures 30 replaced_at30 ∷ figures 19 holds_both_at19 ∷ figures 20 hands_both_at20 ∷ figures 20 twice_at20
    ∷ figures 20 packed_at20 ∷ [])
    ≡ (0 ∷ 0 ∷ 0 ∷ 0 ∷ 0 ∷ [])
    ∷ (0 ∷ 0 ∷ 0 ∷ 0 ∷ 0 ∷ [])
    ∷ (0 ∷ 1 ∷ 0 ∷ 0 ∷ 0 ∷ [])
    ∷ (0 ∷ 0 ∷ 0 ∷ 1 ∷ 12 ∷ [])
    ∷ (0 ∷ 0 ∷ 0 ∷ 2 ∷ 12 ∷ [])
    ∷ (0 ∷ 2 ∷ 0 ∷ 0 ∷ 0 ∷ [])
    ∷ (0 ∷ 0 ∷ 10 ∷ 2 ∷ 0 ∷ [])
    ∷ []
unfolding telling
both-figures = refl

-- frames of both widths in one hand-out, by their lengths, and a wide one that stays on the shelf
pub both-widths :
    (map (λ frame. length frame) (wider_held_bytes (along season.before (pair_at 20) 6) (tick_in (pair_at 20) hands_both_at20).delivery)
    ∷ map (λ frame. length frame) (wider_held_bytes (along season.before (pair_at 19) 5) (tick_in (pair_at 19) holds_both_at19).holdback) ∷ [])
    ≡ (10 ∷ 12 ∷ []) ∷ (12 ∷ []) ∷ []
unfolding telling
both-widths = refl

-- the mend, frames taken and the last clock, of an observer
abbrev listened : Listening → List ℕ
listened i =
    let o = listen_in (pair_at 20) i in
    o.number ∷ o.repair ∷ o.taken ∷ o.delivered ∷ o.last ∷ []

pub both-listened : (listened twice_listening ∷ listened packed_listening ∷ []) ≡ (0 ∷ 2 ∷ 0 ∷ 0 ∷ 6 ∷ []) ∷ (0 ∷ 0 ∷ 10 ∷ 2 ∷ 6 ∷ []) ∷ []
unfolding telling
both-listened = refl

-- ---- next clocks: before V, across V by a step that only the wider pair allows, and past V

pub next-before : NextClock season.before (pair_at 14) 0 1
unfolding telling
next-before = record { step-pos = leb-true 1 1 refl; step-few = leb-true 1 1 refl; before-next = λ h. ltb-true 1 17 refl }

pub next-across : NextClock season.before (pair_at 16) 2 2
unfolding telling
next-across = record { step-pos = leb-true 1 2 refl; step-few = leb-true 2 2 refl; before-next = λ h. ltb-true 2 15 refl }

pub next_past : NextClock season.before (pair_at 19) 5 1
unfolding telling
next_past = record { step-pos = leb-true 1 1 refl; step-few = leb-true 1 2 refl; before-next = λ h. ltb-true 1 12 refl }

-- so the tables that the call for 16 leaves are sound for 18, and the shelf that the call for 19 leaves for 20
pub next-tables : wider_tables_sound (next_along season.before (pair_at 16) 2 2) 4 (tick_in (pair_at 16) quiet_at16).answer.tables ≡ true
unfolding telling
next-tables = (demand2-in (pair_at 16) quiet_at16 refl).bounded 2 next-across

pub next-holdback : wider_sound_holdback (next_along season.before (pair_at 19) 5 1) 6 14 (tick_in (pair_at 19) holds_both_at19).holdback ≡ true
unfolding telling
next-holdback = (demand2-in (pair_at 19) holds_both_at19 refl).bounded_queue 1 next_past
