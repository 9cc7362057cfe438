-- A node between its calls, as its last call left it or as it was at the start, and what its next call starts from, whichever setups the two have: a
-- memory is said among true clocks.
-- Assumes nothing.
use Prim.Native.Nat.{ℕ, ◌+◌, ◌-◌, ◌*◌, ◌%◌, ◌≤◌, ◌<◌}
use native.Mathlib.Omega.{arith}
use native.Mathlib.Nat.{mod-lt}
use mathlib.Core.Path.{◌≡◌, sym, ap, ap₂, subst, ◌∙◌}
use mathlib.Core.Logic.{◌⊎◌, inl, inr}
use mathlib.Core.Bool.{Bool, true, false, cond}
use mathlib.Core.List.{List, [], ◌++◌, append_assoc, Memᴰ}
use lib.ListN.{length}
use Rattle.laws.proofs.Numbers.{clash}
use Rattle.laws.proofs.Lists.{every-mem}
use Rattle.model.specs.Setup.{Setup, width}
use Rattle.model.specs.Timestamp.{Timestamp, clock_step, sound_clock, sound_beside, trimmed, replaced}
use Rattle.model.specs.Frame.{Frame}
use Rattle.model.specs.Holdback.{not_early, encode_frames}
use Rattle.model.specs.Tick.{step_of, least_at as least_from}
use Rattle.model.specs.Schedule.{Schedule, limits_at, modulus_of, own_limits, tables_half, due_along}
use Rattle.model.specs.Wider.{frame_half, wider_held, wider_sound_holdback, wider_opening_queue, wider_tables_sound, wider_least, wider_step, wider_opening_stamp}
use Rattle.model.specs.Run.{Node, Call, Done, World}
use Rattle.lemmas.proofs.Reading.{step-true}
use Rattle.lemmas.proofs.Counts.{clock-sound, left-beside, trimmed-wide}
use Rattle.lemmas.proofs.Queue.{early_from}
use Rattle.lemmas.proofs.Schedules.{Good as GoodSchedule, limits-good, limits-modulus, limits-n, limits-widest, moved_by, due-moved}
use Rattle.lemmas.proofs.WiderQueue.{opening-along}
use Rattle.lemmas.proofs.WiderTick.{opening-stamp-along}
use Rattle.lemmas.proofs.Positions.{place_at, reads, place_kept, placed-bytes, placed-held}
use Rattle.theory.proofs.Stamps.{early-bounded, step-bounded, under-step}
use Rattle.theory.proofs.Outputs.{found-listens, found-tables, found-holdback}
use Rattle.theory.proofs.World.{event_frame, Explained, Bounded, Under, least_by, least_at, opened_at, OpensQueue, OpensStamp, Memory, Tables, LeftStamp, LeftAt, Untouched, NodeOk, AsWide, Called}

-- what a call left is sound for the clock of the next, for a step of 1 to ε, and is opened as it is
module _ (g l : Schedule) (node found : Node) (call : Call) (v : ℕ) (good : GoodSchedule g) (good-l : GoodSchedule l) (c : Called g l node found call v) (memory : Memory g node) where
  abbrev k : ℕ
  k = call.step

  abbrev u : ℕ
  u = v % modulus_of l

  abbrev half : ℕ
  half = (limits_at g node.clock).epsilon

  large : 6 * (limits_at g v).epsilon + (limits_at g v).delta + 1 ≤ modulus_of l
  large = omega (arith, (limits-good g good v).modulus-least, limits-modulus g good v, c.agrees.modulus)

  own-epsilon : (own_limits l).epsilon ≡ (limits_at g v).epsilon
  own-epsilon = ap (λ (s : Setup). s.epsilon) c.agrees.own

  r-is : found.tables.r ≡ node.clock % modulus_of l
  r-is = ap (λ (t : Timestamp). t.r) (found-tables call node found c.found-is) ∙ (memory.r-is ∙ ap (λ (B : ℕ). node.clock % B) (sym c.agrees.modulus))

  r-below : found.tables.r < modulus_of l
  r-below =
      let pos : 0 < modulus_of l = omega (arith, large) in
      omega (arith, r-is, mod-lt node.clock pos)

  step_is : clock_step (modulus_of l) found.tables.r u ≡ k
  step_is =
      ap₂ (λ (r x : ℕ). clock_step (modulus_of l) r (x % modulus_of l)) r-is c.turn
      ∙ step-true (modulus_of l) node.clock k (omega (arith, c.step-few, large))

  own-step : clock_step (own_limits l).modulus found.tables.r u ≡ k
  own-step = ap (λ (B : ℕ). clock_step B found.tables.r u) (limits-modulus l good-l (modulus_of l)) ∙ step_is

  abbrev clocked : Bool
  clocked = sound_clock (own_limits l).epsilon (modulus_of l) u found.tables.r

  clock-is-sound : clocked ≡ true
  clock-is-sound = clock-sound (own_limits l).epsilon (modulus_of l) u found.tables.r k r-below step_is c.step-pos (omega (arith, c.step-few, own-epsilon))

  -- the next call takes the tables for as wide as they are
  as_wide : tables_half l k ≡ half
  as_wide = c.agrees.tables k node.clock c.turn c.step-few (omega (arith, c.step-few, large))

  step-wide : tables_half l (clock_step (own_limits l).modulus found.tables.r u) ≡ half
  step-wide = ap (tables_half l) own-step ∙ as_wide

  same-n : (own_limits l).n ≡ (limits_at g node.clock).n
  same-n = ap (λ (s : Setup). s.n) c.agrees.own ∙ (limits-n g good v ∙ sym (limits-n g good node.clock))

  tables-same : found.tables ≡ node.tables
  tables-same = found-tables call node found c.found-is

  -- a station's tables
  module _ (tables : Tables g node) where
    pub sound-tables : wider_tables_sound l u found.tables ≡ true
    unfolding wider_tables_sound step_of
    sound-tables =
        (λ j. sound_beside clocked (same-n j) (step-wide j) (trimmed (step-wide j) (tables-same j)))
        ∙ left-beside clocked (limits_at g node.clock).n half (trimmed half node.tables) tables clock-is-sound

    pub opens-tables : wider_opening_stamp l u found.tables ≡ wider_step l k u (trimmed half node.tables)
    unfolding wider_opening_stamp step_of
    opens-tables =
        ap (λ (b : Bool). cond b (wider_step l (clock_step (own_limits l).modulus found.tables.r u) u (trimmed (tables_half l (clock_step (own_limits l).modulus found.tables.r u)) found.tables)) (replaced (own_limits l).epsilon u)) sound-tables
        ∙ (λ j. wider_step l (own-step j) u (trimmed (step-wide j) (tables-same j)))

    station-least : wider_least l u found.tables ≡ modulus_of l + 1 - k
    unfolding wider_least step_of
    station-least = ap₂ (λ (b : Bool) (x : ℕ). least_from (modulus_of l) b x) sound-tables own-step

  -- an observer's last clock
  observer-least : least_by true l u found.tables ≡ modulus_of l + 1 - k
  observer-least = ap₂ (λ (b : Bool) (x : ℕ). least_from (modulus_of l) b x) clock-is-sound step_is

  -- a station has sound tables, an observer none; and the frames are taken for as wide as they are
  module _ (tables : node.listens ≡ false → Tables g node) (widths : (f : Frame) → Memᴰ f memory.queue → frame_half l f ≡ frame_half g f) where
    pub least-is : least_at l v found ≡ modulus_of l + 1 - k
    least-is = go found.listens (sym (found-listens call node found c.found-is))
      where
        go : (b : Bool) → node.listens ≡ b → least_by b l u found.tables ≡ modulus_of l + 1 - k
        go true e = observer-least
        go false e = station-least (tables e)

    -- the frames, and what stands behind them
    abbrev behind : List ℕ
    behind = memory.rest ++ call.spare

    bytes-are : found.holdback ≡ encode_frames memory.queue ++ behind
    bytes-are =
        found-holdback call node found c.found-is
        ∙ (ap (λ (x : List ℕ). x ++ call.spare) memory.bytes ∙ append_assoc (encode_frames memory.queue) memory.rest call.spare)

    pub sound-holdback : wider_sound_holdback l u (least_at l v found) found.holdback ≡ true
    sound-holdback =
        ap₂ (λ (x : ℕ) (y : List ℕ). wider_sound_holdback l u x y) least-is bytes-are
        ∙ placed-bytes g l node.clock v k good good-l c.agrees c.turn c.step-pos c.step-few memory.queue memory.placed widths behind

    pub opens-holdback : opened_at l v found ≡ memory.queue
    unfolding wider_opening_queue
    opens-holdback =
        ap (λ (b : Bool). cond b (wider_held l found.holdback) []) sound-holdback
        ∙ (ap (wider_held l) bytes-are
        ∙ placed-held g l node.clock v k good good-l c.agrees c.turn c.step-pos c.step-few memory.queue memory.placed widths behind)

  -- a frame stays at its place
  stays : (f : Frame) → Memᴰ f memory.queue → place_at g v f ≡ place_at g node.clock f
  stays = place_kept g l node.clock v k good good-l c.agrees c.turn c.step-pos c.step-few memory.queue memory.placed

  explained-later :
      (floor : ℕ) (past : List Done) (heard : ℕ → Bool) (f : Frame) → Memᴰ f memory.queue → Explained g floor past heard node.clock f
      → Explained g floor past heard v f
  explained-later floor past heard f m (inl h) = inl (omega (arith, stays f m))
  explained-later floor past heard f m (inr x) = inr (x.0, x.1, x.2, x.3, x.4, x.5, stays f m ∙ x.6)

  -- what is due, among true clocks
  later-due : (f : Frame) (R : ℕ) → Memᴰ f memory.queue → place_at g v f ≡ modulus_of g + R → node.clock < due_along g (R + f.stamp.c)
  later-due f R m e =
      let there : place_at g node.clock f + f.stamp.c ≡ R + f.stamp.c + modulus_of g = omega (arith, stays f m, e) in
      omega (arith, memory.placed.later f m, ap (due_along (moved_by (modulus_of g) g)) there, due-moved (modulus_of g) g (R + f.stamp.c))

-- a call for a clock 1 to ε after the node's
module _ (g l : Schedule) (floor from : ℕ) (w : World) (node found : Node) (call : Call) (v : ℕ) (good : GoodSchedule g) (good-l : GoodSchedule l)
    (c : Called g l node found call v) (order : floor ≤ from)
  where
    -- what a call left
    left-opens :
        (left : LeftAt g floor from w call.node node) → OpensQueue g floor from w call.node node.clock v left.memory.queue
    left-opens left =
        record {
          members = λ f m. explained-later g l node found call v good good-l c left.memory floor w.past _ f m (left.members f m);
          later = λ f R m e cov. later-due g l node found call v good good-l c left.memory f R m e;
          waiting = left.waiting;
        }

    -- whatever was there before the first call lies below the floor
    not_yet : Untouched g floor w call.node node → v + (limits_at g v).epsilon ≤ floor
    not_yet old = omega (arith, old.early, c.turn, c.step-few, (limits-widest g good v).0)

    untouched-opens : Untouched g floor w call.node node → OpensQueue g floor from w call.node node.clock v (opened_at l v found)
    untouched-opens old =
        record {
          members = λ f m. inl (below f m);
          later = λ f R m e cov. absurd (omega (arith, below f m, order, e));
          waiting = λ j m at cov heard. absurd (clash heard (old.unheard j));
        }
      where
        below : (f : Frame) → Memᴰ f (opened_at l v found) → place_at g v f + f.stamp.c < modulus_of g + floor
        below f m =
            let sound = opening-along l good-l (v % modulus_of l) (least_at l v found) found.holdback in
            omega (
              arith,
              not_yet old,
              early_from (own_limits l) (v % modulus_of l) f (every-mem (not_early (own_limits l) (v % modulus_of l)) sound.early m),
              (limits-good g good v).epsilon-pos,
              ap (λ (s : Setup). s.epsilon) c.agrees.own,
              limits-modulus l good-l (modulus_of l),
              c.agrees.modulus,
              reads g l v c.agrees f,
            )

    pub node_opens :
        NodeOk g floor from w call.node node → Untouched g floor w call.node node ⊎ AsWide g l floor w call.node node
        → OpensQueue g floor from w call.node node.clock v (opened_at l v found)
    node_opens ok (inl old) = untouched-opens old
    node_opens (inl old) (inr widths) = untouched-opens old
    node_opens (inr left) (inr widths) =
        subst (OpensQueue g floor from w call.node node.clock v)
        (sym (opens-holdback g l node found call v good good-l c left.memory (λ station. (left.stamp station).tables) (widths left.memory left.members)))
        (left-opens left)

    -- and a station's stamp
    left-opens-stamp :
        (left : LeftStamp g floor w call.node node) (u : ℕ)
        → OpensStamp g floor w call.node v (wider_step l call.step u (trimmed (limits_at g node.clock).epsilon node.tables))
    left-opens-stamp left u =
        let t : Timestamp = trimmed (limits_at g node.clock).epsilon node.tables in
        let opened : Timestamp = wider_step l call.step u t in
        let as_wide : tables_half l call.step ≡ (limits_at g node.clock).epsilon =
        c.agrees.tables call.step node.clock c.turn c.step-few
        (omega (arith, c.step-few, (limits-good g good v).modulus-least, limits-modulus g good v, c.agrees.modulus)) in
        let own : (own_limits l).epsilon ≡ (limits_at g v).epsilon = ap (λ (s : Setup). s.epsilon) c.agrees.own in
        let wide : length t.kn ≡ width (tables_half l call.step) = trimmed-wide (limits_at g node.clock).epsilon node.tables ∙ ap width (sym as_wide) in
        record {
          bounded =
              subst (λ (x : ℕ). Bounded (limits_at g v).epsilon floor w.nodes x opened.kn) (sym c.turn)
              (subst (λ (e : ℕ). Bounded e floor w.nodes (node.clock + call.step) opened.kn) own
              (step-bounded l good-l floor w.nodes call.step node.clock u t wide
              (subst (λ (e : ℕ). Bounded e floor w.nodes node.clock t.kn) (sym as_wide) left.bounded)));
          passed_on = λ j d at made same.
              let r = left.passed_on j d at made same in
              let h : ℕ = (limits_at g r.last.clock).epsilon in
              record {
                last = r.last;
                sound = r.sound;
                comes = r.comes;
                under =
                    subst (λ (x : ℕ). Under h r.last.clock (event_frame g r.last).stamp (limits_at g v).epsilon x opened) (sym c.turn)
                    (subst (λ (e : ℕ). Under h r.last.clock (event_frame g r.last).stamp e (node.clock + call.step) opened) own
                    (under-step l good-l call.step node.clock u h r.last.clock (event_frame g r.last).stamp t wide
                    (subst (λ (e : ℕ). Under h r.last.clock (event_frame g r.last).stamp e node.clock t) (sym as_wide) r.under)));
              };
        }

    untouched-opens-stamp :
        Untouched g floor w call.node node → (t : Timestamp) → length t.kn ≡ width (own_limits l).epsilon → OpensStamp g floor w call.node v t
    untouched-opens-stamp old t wide =
        record {
          bounded =
              early-bounded (limits_at g v).epsilon floor w.nodes v t.kn (wide ∙ ap (λ (s : Setup). width s.epsilon) c.agrees.own) (not_yet old);
          passed_on = λ j d at made same. absurd (old.uncalled j d at made same);
        }

    pub node-opens-stamp :
        NodeOk g floor from w call.node node → node.listens ≡ false
        → OpensStamp g floor w call.node v (wider_opening_stamp l (v % modulus_of l) found.tables)
    node-opens-stamp (inl old) station =
        untouched-opens-stamp old (wider_opening_stamp l (v % modulus_of l) found.tables) (opening-stamp-along l good-l (v % modulus_of l) found.tables).wide
    node-opens-stamp (inr left) station =
        subst (OpensStamp g floor w call.node v) (sym (opens-tables g l node found call v good good-l c left.memory (left.stamp station).tables))
        (left-opens-stamp (left.stamp station) (v % modulus_of l))
