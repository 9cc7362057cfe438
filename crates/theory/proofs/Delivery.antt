-- What is delivered in a call is what has come due since the clock before it, in order.
-- Assumes nothing.
use Prim.Native.Nat.{ℕ, ◌+◌, ◌≤◌, ◌<◌}
use native.Mathlib.Omega.{arith}
use native.Mathlib.Nat.{zero-add}
use mathlib.Core.Path.{◌≡◌, sym, ap, ap₂, subst, ◌∙◌}
use mathlib.Core.Logic.{inl, inr}
use mathlib.Core.Bool.{Bool, true, ◌&&◌, not}
use mathlib.Core.List.{List, [], ◌∷◌, ◌++◌, map, Memᴰ}
use mathlib.Core.Option.{some}
use lib.Dec.{leb, ltb, eqb}
use lib.ListN.{get_elem?}
use borrow.Author.Tests.{leb-true, le-leb, ltb-true, lt-ltb, eqb-true, eq-eqb}
use Rattle.laws.specs.Lists.{any, select, sort_by, apart}
use Rattle.laws.specs.Lex.{lex_compare}
use Rattle.laws.proofs.Numbers.{and_intro, and_left, and_right, false-of-no, not_of_false}
use Rattle.laws.proofs.Lists.{select-map, map-ext, map-map, mem-select, mem-of-select, mem-map, mem-of-map, mem-select_from-zero, mem-of-select_from-zero, get_elem?-snoc-cases, get_elem?-append, get_elem?-lt}
use Rattle.laws.proofs.Sorted.{Sorted, sorted-select, sorted-unique, sorted-rekey, sorted-map, apart-of-pairwise, pairwise-select_from}
use Rattle.laws.proofs.InsertionSort.{mem-sort_by, mem-of-sort_by, sorted-sort_by}
use Rattle.model.specs.Timestamp.{sum}
use Rattle.model.specs.Frame.{Frame, encode}
use Rattle.model.specs.Schedule.{Schedule, limits_at, modulus_of, due_along}
use Rattle.model.specs.Wider.{wider_decode, wider_key}
use Rattle.model.specs.Run.{Done, is_event, sends, message_bytes, message_frame}
use Rattle.theory.specs.Demand3.{covered, heard_in}
use Rattle.theory.specs.Through.{due_clock_along, due_in_along, message_key_along, earlier_along, due_here_along, covered_along}
use Rattle.lemmas.proofs.Schedules.{Good as GoodSchedule}
use Rattle.lemmas.proofs.WideFrames.{HasWidth, wide-decode}
use Rattle.lemmas.proofs.WiderQueue.{key-origin-along}
use Rattle.lemmas.proofs.Positions.{place_at, placed_key, placed-order}
use Rattle.theory.proofs.Along.{due-clock, key-along}
use Rattle.theory.proofs.Event.{event-reads}
use Rattle.theory.proofs.Due.{due-window-reads, due-after}
use Rattle.theory.proofs.HearLoop.{covered-sends, covered-from, covered_of, event-station}
use Rattle.theory.proofs.World.{event_frame, event_due, heard_at, Explained, AllExplained, CallEvent, sends-event}

same-call : Done → Done → Bool
same-call a b = eqb a.own b.own && eqb a.clock b.clock

-- the frames delivered in a call that moves a clock from `last` to v: in order, each explained and come due, and all of these that are covered
pub record Delivers (g : Schedule) (floor from : ℕ) (past : List Done) (heard : ℕ → Bool) (last v : ℕ) (frames : List Frame) : Type 0 where
  pub wide : (f : Frame) → Memᴰ f frames → HasWidth g f
  pub sorted : Sorted (placed_key g v) frames
  pub members : AllExplained g floor past heard v frames
  pub not-before : (f : Frame) (R : ℕ) → Memᴰ f frames → place_at g v f ≡ modulus_of g + R → from ≤ R → last < due_along g (R + f.stamp.c)
  pub not-past : (f : Frame) (R : ℕ) → Memᴰ f frames → place_at g v f ≡ modulus_of g + R → from ≤ R → due_along g (R + f.stamp.c) ≤ v
  pub all :
      (k : ℕ) (m : Done) → get_elem? past k ≡ some m → covered from m ≡ true → heard k ≡ true → last < event_due g m → event_due g m ≤ v
      → Memᴰ (event_frame g m) frames

-- the calls past, then the call d, which delivers the frames
module _
    (g : Schedule) (floor from last v node : ℕ) (order : floor ≤ from) (past : List Done) (d : Done) (frames : List Frame) (good : GoodSchedule g)
    (before : last ≤ v) (near : v ≤ last + (limits_at g v).epsilon)
    (events : (k : ℕ) (m : Done) → get_elem? past k ≡ some m → is_event m ≡ true → CallEvent g m)
    (unique : (k l : ℕ) (a b : Done) → get_elem? past k ≡ some a → get_elem? past l ≡ some b → is_event a ≡ true → is_event b ≡ true
    → a.own ≡ b.own → a.clock ≡ b.clock → k ≡ l)
    (clock-is : d.clock ≡ v)
    (delivers : Delivers g floor from past (heard_at (past ++ (d ∷ [])) node) last v frames)
  where
    abbrev list : List Done
    list = due_here_along g from (past ++ (d ∷ [])) node last v

    -- a message of the list
    abbrev Found : ℕ → Done → Type 0
    Found k m =
        (get_elem? past k ≡ some m) × (covered from m ≡ true) × (last < event_due g m) × (event_due g m ≤ v)
        × (heard_at (past ++ (d ∷ [])) node k ≡ true)

    made : (m : Done) → covered from m ≡ true → is_event m ≡ true
    made m f = sends-event m (covered-sends from m f)

    event : (k : ℕ) (m : Done) → get_elem? past k ≡ some m → covered from m ≡ true → CallEvent g m
    event k m at f = events k m at (made m f)

    -- the test of the list
    abbrev test : ℕ → Done → Bool
    test k m = covered from m && (due_in_along g last v m && any (heard_in node k) (past ++ (d ∷ [])))

    -- the due clock of a message, by its frame
    due-is : (m : Done) → CallEvent g m → sends m ≡ true → due_clock_along g m ≡ event_due g m
    unfolding sum
    due-is m ev sent = due-clock g m ∙ ap (λ (f : Frame). due_along g (m.clock + f.stamp.c)) (ev.message sent)

    due-of : (m : Done) → CallEvent g m → sends m ≡ true → due_in_along g last v m ≡ true → (last < event_due g m) × (event_due g m ≤ v)
    unfolding due_in_along
    due-of m ev sent e =
        let at = due_clock_along g m in
        let lo = ltb-true last at (and_left (ltb last at) (leb at v) e) in
        let hi = leb-true at v (and_right (ltb last at) (leb at v) e) in
        (omega (arith, lo, due-is m ev sent), omega (arith, hi, due-is m ev sent))

    of-due : (m : Done) → CallEvent g m → sends m ≡ true → last < event_due g m → event_due g m ≤ v → due_in_along g last v m ≡ true
    unfolding due_in_along
    of-due m ev sent lo hi =
        and_intro (lt-ltb last (due_clock_along g m) (omega (arith, due-is m ev sent))) (le-leb (due_clock_along g m) v (omega (arith, due-is m ev sent)))

    -- the call itself is due later
    not_itself : due_in_along g last v d ≡ true → ⊥
    unfolding due_in_along sum
    not_itself e =
        let x : ℕ = d.clock + (message_frame d).stamp.c in
        let at = due_clock_along g d in
        omega (arith, leb-true at v (and_right (ltb last at) (leb at v) e), due-clock g d, due-after g good x, clock-is)

    found_at : (k : ℕ) (m : Done) → get_elem? (past ++ (d ∷ [])) k ≡ some m → test k m ≡ true → Found k m
    unfolding heard_at
    found_at k m at e =
        elim (get_elem?-snoc-cases past d k at) [
          | inl q ↦ (q, fol, (here q).0, (here q).1, and_right (due_in_along g last v m) (any (heard_in node k) (past ++ (d ∷ []))) rest)
          | inr q ↦ absurd (not_itself (subst (λ (y : Done). due_in_along g last v y ≡ true) q.1 d-at))
        ]
      where
        fol : covered from m ≡ true
        fol = and_left (covered from m) (due_in_along g last v m && any (heard_in node k) (past ++ (d ∷ []))) e

        rest : (due_in_along g last v m && any (heard_in node k) (past ++ (d ∷ []))) ≡ true
        rest = and_right (covered from m) (due_in_along g last v m && any (heard_in node k) (past ++ (d ∷ []))) e

        d-at : due_in_along g last v m ≡ true
        d-at = and_left (due_in_along g last v m) (any (heard_in node k) (past ++ (d ∷ []))) rest

        here : get_elem? past k ≡ some m → (last < event_due g m) × (event_due g m ≤ v)
        here q = due-of m (event k m q fol) (covered-sends from m fol) d-at

    found : (m : Done) → Memᴰ m list → (k : ℕ) × Found k m
    unfolding due_here_along
    found m mem = let r = mem-of-select_from-zero test (past ++ (d ∷ [])) mem in (r.0, found_at r.0 m r.1 r.2)

    listed : (k : ℕ) (m : Done) → Found k m → Memᴰ m list
    unfolding due_here_along heard_at
    listed k m f =
        mem-select_from-zero test (past ++ (d ∷ [])) k (get_elem?-append past (d ∷ []) k (get_elem?-lt past k f.0) ∙ f.0)
        (and_intro f.1 (and_intro (of-due m (event k m f.0 f.1) (covered-sends from m f.1) f.2 f.3) f.4))

    -- its place is that of its true clock
    stands : (k : ℕ) (m : Done) → Found k m → place_at g v (event_frame g m) ≡ modulus_of g + m.clock
    stands k m f =
        let ev = event k m f.0 f.1 in
        event-reads g v m good ev (omega (arith, f.3, due-after g good (m.clock + (event_frame g m).stamp.c)))
        (due-window-reads g good last v before near m.clock (event_frame g m).stamp.c ev.frame.sound.close f.2)

    -- the list has no call twice
    list-apart : apart same-call list ≡ true
    unfolding due_here_along same-call
    list-apart =
        apart-of-pairwise same-call list
        (pairwise-select_from (λ x y. not (same-call x y)) test 0 (past ++ (d ∷ [])) differ)
      where
        differ : (j k : ℕ) (x y : Done) → j < k → get_elem? (past ++ (d ∷ [])) j ≡ some x → get_elem? (past ++ (d ∷ [])) k ≡ some y → test (0 + j) x ≡ true → test (0 + k) y ≡ true
            → not (same-call x y) ≡ true
        differ j k x y h at_j at-k p q =
            let f : Found j x = found_at j x at_j (rw zero-add at p) in
            let g : Found k y = found_at k y at-k (rw zero-add at q) in
            not_of_false (false-of-no (same-call x y) (λ e.
            let z : j ≡ k = unique j k x y f.0 g.0 (made x f.1) (made y g.1) (eqb-true x.own y.own (and_left (eqb x.own y.own) (eqb x.clock y.clock) e)) (eqb-true x.clock y.clock (and_right (eqb x.own y.own) (eqb x.clock y.clock) e)) in
            let bad : ⊥ = omega arith in bad))

    -- the key of a message of the list, with its frame named
    message-key : (k : ℕ) (m : Done) → Found k m → message_key_along g m ≡ wider_key g m.clock (event_frame g m)
    message-key k m f = key-along g m ∙ ap (wider_key g m.clock) ((event k m f.0 f.1).message (covered-sends from m f.1))

    list-keys : (x y : Done) → Memᴰ x list → Memᴰ y list → message_key_along g x ≡ message_key_along g y → same-call x y ≡ true
    unfolding same-call
    list-keys x y mx my e =
        let f = found x mx in
        let h = found y my in
        let q : wider_key g x.clock (event_frame g x) ≡ wider_key g y.clock (event_frame g y) =
        sym (message-key f.0 x f.1) ∙ (e ∙ message-key h.0 y h.1) in
        let (stations, clocks) = key-origin-along g x.clock y.clock (event_frame g x) (event_frame g y) q in
        and_intro (eq-eqb x.own y.own (sym (event-station g x) ∙ (stations ∙ event-station g y))) (eq-eqb x.clock y.clock clocks)

    abbrev key_at : Frame → List ℕ
    key_at f = placed_key g v f

    same-order : (x y : Done) → Memᴰ x list → Memᴰ y list → lex_compare (message_key_along g x) (message_key_along g y) ≡ lex_compare (key_at (event_frame g x)) (key_at (event_frame g y))
    same-order x y mx my =
        let f = found x mx in
        let h = found y my in
        ap₂ lex_compare (message-key f.0 x f.1) (message-key h.0 y h.1)
        ∙ sym (placed-order g v x.clock y.clock (event_frame g x) (event_frame g y) (stands f.0 x f.1) (stands h.0 y h.1))

    abbrev sorted : List Done
    sorted = sort_by (earlier_along g) list

    sorted-frames : Sorted key_at (map (event_frame g) sorted)
    unfolding earlier_along
    sorted-frames =
        sorted-map key_at (event_frame g) sorted
        (sorted-rekey (message_key_along g) (λ (m : Done). key_at (event_frame g m)) sorted (λ x y mx my. same-order x y (mem-of-sort_by (earlier_along g) list mx) (mem-of-sort_by (earlier_along g) list my))
        (sorted-sort_by (message_key_along g) same-call list list-apart list-keys))

    -- what is delivered and covered
    abbrev is_covered : Frame → Bool
    is_covered f = covered_along g from v (encode f)

    abbrev chosen : List Frame
    chosen = select is_covered frames

    sorted-chosen : Sorted key_at chosen
    sorted-chosen = sorted-select key_at is_covered frames delivers.sorted

    decoded : (f : Frame) → Memᴰ f frames → wider_decode g (encode f) ≡ f
    decoded f mem = wide-decode g f (delivers.wide f mem)

    into : (f : Frame) → Memᴰ f chosen → Memᴰ f (map (event_frame g) sorted)
    unfolding covered_along
    into f mem =
        let a = mem-of-select is_covered frames mem in
        go a.0 (delivers.members f a.0)
        (leb-true (modulus_of g + from) (place_at g v f)
        (subst (λ (x : Frame). leb (modulus_of g + from) (place_at g v x) ≡ true) (decoded f a.0) a.1))
      where
        go : Memᴰ f frames → Explained g floor past (heard_at (past ++ (d ∷ [])) node) v f → modulus_of g + from ≤ place_at g v f
            → Memᴰ f (map (event_frame g) sorted)
        go there (inl h) fol = let bad : ⊥ = omega arith in absurd bad
        go there (inr x) fol =
            let R : ℕ = x.1.clock in
            let late : from ≤ R = omega (arith, x.6) in
            let is : due_along g (R + f.stamp.c) ≡ event_due g x.1 = ap (λ (y : Frame). due_along g (R + y.stamp.c)) x.5 in
            let lo : last < event_due g x.1 = omega (arith, is, delivers.not-before f R there x.6 late) in
            let hi : event_due g x.1 ≤ v = omega (arith, is, delivers.not-past f R there x.6 late) in
            subst (λ (y : Frame). Memᴰ y (map (event_frame g) sorted)) (sym x.5)
            (mem-map (event_frame g) (mem-sort_by (earlier_along g) (listed x.0 x.1 (x.2, covered_of from x.1 x.3 late, lo, hi, x.4))))

    back : (f : Frame) → Memᴰ f (map (event_frame g) sorted) → Memᴰ f chosen
    unfolding covered_along
    back f mem =
        let a = mem-of-map (event_frame g) sorted mem in
        let b = found a.0 (mem-of-sort_by (earlier_along g) list a.1) in
        subst (λ (x : Frame). Memᴰ x chosen) (sym a.2) (go b.0 a.0 b.1)
      where
        go : (k : ℕ) (m : Done) → Found k m → Memᴰ (event_frame g m) chosen
        go k m h =
            let q : Memᴰ (event_frame g m) frames = delivers.all k m h.0 h.1 h.4 h.2 h.3 in
            mem-select is_covered q
            (subst (λ (x : Frame). leb (modulus_of g + from) (place_at g v x) ≡ true) (sym (decoded (event_frame g m) q))
            (le-leb (modulus_of g + from) (place_at g v (event_frame g m)) (omega (arith, stands k m h, covered-from from m h.1))))

    pub delivery :
        select (covered_along g from v) (map encode frames)
        ≡ map message_bytes sorted
    delivery =
        select-map (covered_along g from v) encode frames
        ∙ (ap (map encode) (sorted-unique key_at chosen (map (event_frame g) sorted) sorted-chosen sorted-frames into back)
        ∙ (map-map encode (event_frame g) sorted
        ∙ sym (map-ext message_bytes (λ (m : Done). encode (event_frame g m)) sorted bytes)))
      where
        bytes : (m : Done) → Memᴰ m sorted → message_bytes m ≡ encode (event_frame g m)
        bytes m mem =
            let f = found m (mem-of-sort_by (earlier_along g) list mem) in
            (event f.0 m f.1.0 f.1.1).bytes (covered-sends from m f.1.1)
