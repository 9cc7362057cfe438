-- 02, 2.9: hearing a batch. An engine, whose clocks are plain numbers, gives each entry the verdict that a station gives it by readings near v.
-- Assumes nothing.
use Prim.Native.Nat.{ℕ, ◌+◌, ◌-◌, ◌%◌, ◌≤◌, ◌<◌}
use native.Mathlib.Omega.{arith}
use mathlib.Core.Path.{◌≡◌, refl, sym, ap, ap₂, subst, ◌∙◌}
use mathlib.Core.Logic.{inl, inr}
use mathlib.Core.Bool.{Bool, true, ◌&&◌, not}
use mathlib.Core.List.{List, [], ◌∷◌, ◌++◌, map, map-append, append_assoc, append-nil}
use mathlib.Core.List.Memᴰ
use mathlib.Core.List.{Memᴰ}
use mathlib.Core.Option.{Option, none, some}
use lib.Dec.{ltb, eqb}
use lib.ListN.{length, get_elem?, length-append, length-map}
use borrow.Author.Tests.{eqb-true, eq-eqb, lt-ltb, le-ltb}
use Rattle.laws.specs.Lists.{any, every, select, insert_at, fold_left}
use Rattle.laws.proofs.Numbers.{same_test, leb-moved, not_of_false}
use Rattle.laws.proofs.Lists.{any-mem, any-of-mem, any-map, select-append, select_yes, mem-select, mem-of-select, insert_at-end, get_elem?-map, get_elem?-get_or}
use Rattle.model.specs.Setup.{Setup}
use Rattle.model.specs.Timestamp.{Timestamp, sum, near, at_most}
use Rattle.model.specs.Frame.{Frame, encode, decode}
use Rattle.model.specs.Order.{reading_of}
use Rattle.model.specs.Question.{Question, first_no}
use Rattle.model.specs.Holdback.{same_origin, not_early}
use Rattle.model.specs.Judge.{Heard, ask_late, ask_early, ask_counts, ask_repeat, place_questions, judge_questions, hear_one, place_for, absorb_by, absorb_all, absorb_each}
use Rattle.model.specs.Published.{Event, Message, same_message, message_due}
use Rattle.model.specs.Run.{Source, sent_by}
use Rattle.model.specs.Long.{long_bound, plainly, long_encode, long_decode, long_most, long_not_early, ask_long_early, ask_held, long_place_questions, long_questions, long_judge, long_hear_one, long_hear, long_absorb_by, long_absorb_all}
use Rattle.theory.specs.Demand2.{reduced, reduced_frame}
use Rattle.theory.specs.LongClocks.{long_entry}
use Rattle.lemmas.proofs.Bounds.{Limits, Sound, FrameOk}
use Rattle.lemmas.proofs.Questions.{no-append, yes-append, yes-cons}
use Rattle.lemmas.proofs.Counts.{counts-from-moved}
use Rattle.lemmas.proofs.Reading.{near-true}
use Rattle.lemmas.proofs.RoundTrip.{decode-encode, frame-passes}
use Rattle.lemmas.proofs.LongFrames.{long-decode-encode, long-frame-passes}
use Rattle.lemmas.proofs.LongStamps.{at_clock, absorb-moved}
use Rattle.lemmas.proofs.Hearing.{numbers_by}
use Rattle.lemmas.proofs.Receiving.{numbers_of}
use Rattle.theory.proofs.Plain.{hear-refused}
use Rattle.theory.proofs.PublishedEvent.{ReadsTrue}
use Rattle.theory.proofs.PublishedQueue.{SameMembers}
use Rattle.theory.proofs.PublishedHear.{Incoming, News, none_left, again, new, decoded, take-queue, members-insert}
use Rattle.theory.proofs.PublishedRun.{same_parts}

-- the timestamp of an event and the frame of a message, with the clock as it is
abbrev pub plain_stamp : Event → Timestamp
plain_stamp e = record { r = e.r; c = e.c; kn = e.kn }

abbrev pub plain_frame : Message → Frame
plain_frame m = record { station = m.sender; stamp = plain_stamp m.event; payload = m.content }

-- the bytes that an engine sends for what the published program sends, none for nothing
abbrev pub long_bytes : Option Message → List ℕ
long_bytes none = []
long_bytes (some m) = long_encode (plain_frame m)

-- what is in its bounds with its clock modulo B is so with its clock, below 2^63
pub plain-sound : (n epsilon B : ℕ) (e : Event) → Sound n epsilon (reduced B e) → Sound n epsilon (plain_stamp e)
unfolding reduced
plain-sound n epsilon B e o = record { wide = o.wide; close = o.close; most = o.most; top = o.top; above = o.above }

pub plain_ok : (s : Setup) (m : Message) → FrameOk s (reduced_frame s.modulus m) → m.event.r < long_bound → FrameOk (plainly s) (plain_frame m)
unfolding reduced_frame
plain_ok s m ok below =
    record { station-below = ok.station-below; r-below = below; sound = plain-sound s.n s.epsilon s.modulus m.event ok.sound; short = ok.short }

-- what of it is not due before v
abbrev pub remaining : Setup → ℕ → List Message → List Message
remaining s v l = select (λ m. not (ltb (message_due s.epsilon s.delta m) v)) l

remaining-snoc : (s : Setup) (v : ℕ) (l : List Message) (m : Message) → v ≤ message_due s.epsilon s.delta m → remaining s v (l ++ (m ∷ [])) ≡ remaining s v l ++ (m ∷ [])
unfolding select
remaining-snoc s v l m h =
    select-append (λ x. not (ltb (message_due s.epsilon s.delta x) v)) l (m ∷ [])
    ∙ ap (λ (r : List Message). remaining s v l ++ r) (select_yes (λ x. not (ltb (message_due s.epsilon s.delta x) v)) m [] (not_of_false (le-ltb (message_due s.epsilon s.delta m) v h)))

-- a call for v: what is held reads true
module _ (s : Setup) (v : ℕ) where
  abbrev Reads : Message → Type 0
  Reads m = ReadsTrue s.epsilon s.modulus v m.event.r

  one-clock : (r r' : ℕ) → ReadsTrue s.epsilon s.modulus v r → ReadsTrue s.epsilon s.modulus v r' → r % s.modulus ≡ r' % s.modulus → r ≡ r'
  one-clock r r' t t' e =
      let same : near s.epsilon s.modulus (v % s.modulus) (r % s.modulus) ≡ near s.epsilon s.modulus (v % s.modulus) (r' % s.modulus) =
      ap (near s.epsilon s.modulus (v % s.modulus)) e in
      omega arith

  -- 16: station and r, modulo B or not
  origin-alike : (m m' : Message) → Reads m → Reads m' → same_origin (reduced_frame s.modulus m) (reduced_frame s.modulus m') ≡ same_message m m'
  unfolding same_origin same_message reduced_frame reduced
  origin-alike m m' t t' =
      ap (λ (b : Bool). eqb m.sender m'.sender && b)
      (same_test (eqb (m.event.r % s.modulus) (m'.event.r % s.modulus)) (eqb m.event.r m'.event.r)
      (λ h. eq-eqb m.event.r m'.event.r (one-clock m.event.r m'.event.r t t' (eqb-true (m.event.r % s.modulus) (m'.event.r % s.modulus) h)))
      (λ h. eq-eqb (m.event.r % s.modulus) (m'.event.r % s.modulus) (ap (λ (x : ℕ). x % s.modulus) (eqb-true m.event.r m'.event.r h))))

  -- an engine holds what is due before v beside what a station's queue has: what passes 13 is no repeat of that
  module _ (m : Message) (queue : List Frame) (buffer : List Message) (true-here : Reads m) (not_late : v ≤ m.event.r + s.delta + s.epsilon)
      (reads : (x : Message) → Memᴰ x buffer → Reads x) (members : SameMembers s.modulus queue (remaining s v buffer)) where
    not-before : (x : Message) → same_message m x ≡ true → v ≤ message_due s.epsilon s.delta x
    not-before x same = omega (arith, (same_parts m x same).1)

    repeat-alike : any (same_origin (reduced_frame s.modulus m)) queue ≡ any (same_origin (plain_frame m)) (map plain_frame buffer)
    unfolding same_origin same_message
    repeat-alike =
        same_test (any (same_origin (reduced_frame s.modulus m)) queue) (any (same_message m) buffer)
        (λ h.
        let (f, there, same) = any-mem (same_origin (reduced_frame s.modulus m)) queue h in
        let (x, left, e) = members.into f there in
        let held = (mem-of-select (λ y. not (ltb (message_due s.epsilon s.delta y) v)) buffer left).0 in
        any-of-mem (same_message m) held (sym (origin-alike m x true-here (reads x held)) ∙ (ap (same_origin (reduced_frame s.modulus m)) (sym e) ∙ same)))
        (λ h.
        let (x, held, same) = any-mem (same_message m) buffer h in
        any-of-mem (same_origin (reduced_frame s.modulus m))
        (members.back x (mem-select (λ y. not (ltb (message_due s.epsilon s.delta y) v)) held (not_of_false (le-ltb (message_due s.epsilon s.delta x) v (not-before x same)))))
        (origin-alike m x true-here (reads x held) ∙ same))
        ∙ sym (any-map (same_origin (plain_frame m)) plain_frame buffer)

    -- 13 to 16 are the same questions, and 18 comes behind them
    places-alike :
        long_place_questions s v (map plain_frame buffer) (plain_frame m)
        ≡ place_questions s (v % s.modulus) queue (reduced_frame s.modulus m) ++ (ask_held (map plain_frame buffer) ∷ [])
    unfolding long_place_questions place_questions ask_late ask_early ask_counts ask_repeat ask_long_early long_not_early not_early reading_of reduced_frame reduced sum
    places-alike =
        let x = near s.epsilon s.modulus (v % s.modulus) (m.event.r % s.modulus) in
        let late = leb-moved v (m.event.r + (s.delta + s.epsilon)) s.modulus (x + (s.delta + s.epsilon)) (omega arith) in
        let early = leb-moved (m.event.r + m.event.c) (v + (s.epsilon - 1)) (x + m.event.c) (s.modulus + (s.epsilon - 1)) (omega arith) in
        let counts = ap (at_most (s.n - 1)) (counts-from-moved s.epsilon m.event.r x m.event.kn v s.modulus (omega arith)) in
        let repeats = ap not (sym repeat-alike) in
        λ i. (record { holds = late i; number = 13 } ∷ record { holds = early i; number = 14 } ∷ record { holds = counts i; number = 15 }
        ∷ record { holds = repeats i; number = 16 } ∷ ask_held (map plain_frame buffer) ∷ [])

    module _ (ok : FrameOk s (reduced_frame s.modulus m)) (below : m.event.r < long_bound) where
      abbrev asked : List Question
      asked = place_questions s (v % s.modulus) queue (reduced_frame s.modulus m)

      station-number : first_no (judge_questions s (v % s.modulus) queue (encode (reduced_frame s.modulus m))) ≡ first_no asked
      unfolding judge_questions
      station-number =
          frame-passes s (reduced_frame s.modulus m) (place_questions s (v % s.modulus) queue (decode s.epsilon (encode (reduced_frame s.modulus m)))) ok
          ∙ ap (λ (f : Frame). first_no (place_questions s (v % s.modulus) queue f)) (decode-encode s.epsilon (reduced_frame s.modulus m) ok.sound.wide)

      engine-number :
          first_no (long_questions s v (map plain_frame buffer) (long_encode (plain_frame m))) ≡ first_no (asked ++ (ask_held (map plain_frame buffer) ∷ []))
      unfolding long_questions
      engine-number =
          let fits = plain_ok s m ok below in
          long-frame-passes s (plain_frame m) (long_place_questions s v (map plain_frame buffer) (long_decode s.epsilon (long_encode (plain_frame m)))) fits
          ∙ (ap (λ (f : Frame). first_no (long_place_questions s v (map plain_frame buffer) f)) (long-decode-encode s.epsilon (plain_frame m) fits.sound.wide below)
          ∙ ap first_no places-alike)

      pub long-repeat :
          first_no (judge_questions s (v % s.modulus) queue (encode (reduced_frame s.modulus m))) ≡ 16
          → first_no (long_questions s v (map plain_frame buffer) (long_encode (plain_frame m))) ≡ 16
      long-repeat e =
          engine-number ∙ sym (no-append asked (ask_held (map plain_frame buffer) ∷ []) 16 (sym e ∙ station-number) (λ z. omega arith))

      pub long-first :
          first_no (judge_questions s (v % s.modulus) queue (encode (reduced_frame s.modulus m))) ≡ 0 → length buffer < long_most
          → first_no (long_questions s v (map plain_frame buffer) (long_encode (plain_frame m))) ≡ 0
      unfolding place_questions ask_late ask_early ask_counts ask_repeat ask_held every first_no
      long-first e few =
          engine-number
          ∙ (yes-append asked (ask_held (map plain_frame buffer) ∷ []) refl (sym station-number ∙ e)
          ∙ yes-cons (ltb (length (map plain_frame buffer)) long_most) 18 []
          (lt-ltb (length (map plain_frame buffer)) long_most (omega (arith, length-map buffer plain_frame))))

-- one entry heard
heard-repeat :
    (s : Setup) (v : ℕ) (queue : List Frame) (numbers bytes : List ℕ) → first_no (long_questions s v queue bytes) ≡ 16
    → long_hear_one s v (record { queue = queue; verdicts = numbers }) bytes ≡ record { queue = queue; verdicts = numbers ++ (16 ∷ []) }
unfolding long_hear_one long_judge
heard-repeat s v queue numbers bytes e = rw e refl

heard-first :
    (s : Setup) (v : ℕ) (queue : List Frame) (numbers bytes : List ℕ) (f : Frame) → first_no (long_questions s v queue bytes) ≡ 0
    → long_decode s.epsilon bytes ≡ f
    → long_hear_one s v (record { queue = queue; verdicts = numbers }) bytes ≡ record { queue = queue ++ (f ∷ []); verdicts = numbers ++ (0 ∷ []) }
unfolding long_hear_one long_judge
heard-first s v queue numbers bytes f e d = rw (e, d, insert_at-end f queue) refl

-- the entries of a call: the bytes that the calls which they come from sent
abbrev pub long_entries : List (Option Message) → List Source → List (List ℕ)
long_entries sent sources = map (long_entry (map long_bytes sent)) sources

entry-is : (sent : List (Option Message)) (k : ℕ) (m : Message) → get_elem? sent k ≡ some (some m) → long_entry (map long_bytes sent) (sent_by k) ≡ long_encode (plain_frame m)
entry-is sent k m at = get_elem?-get_or (map long_bytes sent) k [] (get_elem?-map long_bytes sent k at)

-- all of them
module _ (s : Setup) (v : ℕ) (sent : List (Option Message)) (limits : Limits s)
    (below : (k : ℕ) (m : Message) → get_elem? sent k ≡ some (some m) → m.event.r < long_bound) where
  incoming-reads : (k : ℕ) (m : Message) (bytes : List ℕ) → Incoming s v sent k m bytes → ReadsTrue s.epsilon s.modulus v m.event.r
  incoming-reads k m bytes a =
      near-true s.epsilon s.modulus v m.event.r limits.epsilon-pos (omega (arith, limits.modulus-least)) a.not-ahead
      (omega (arith, limits.modulus-least, a.not_late))

  abbrev numbers_here : Heard → List (List ℕ) → List ℕ
  numbers_here h entries = numbers_of s (v % s.modulus) (judge_questions s (v % s.modulus)) h entries

  -- the verdict of an entry by its bytes
  module _ (k : ℕ) (m : Message) (bytes : List ℕ) (a : Incoming s v sent k m bytes) where
    in-station : (queue : List Frame) (x : ℕ) → first_no (judge_questions s (v % s.modulus) queue bytes) ≡ x → first_no (judge_questions s (v % s.modulus) queue (encode (reduced_frame s.modulus m))) ≡ x
    in-station queue x e = ap (λ (b : List ℕ). first_no (judge_questions s (v % s.modulus) queue b)) (sym a.bytes-are) ∙ e

    in-engine :
        (queue : List Frame) (x : ℕ) → first_no (long_questions s v queue (long_encode (plain_frame m))) ≡ x
        → first_no (long_questions s v queue (long_entry (map long_bytes sent) (sent_by k))) ≡ x
    in-engine queue x e = ap (λ (b : List ℕ). first_no (long_questions s v queue b)) (entry-is sent k m a.at) ∙ e

    long-decoded : long_decode s.epsilon (long_entry (map long_bytes sent) (sent_by k)) ≡ plain_frame m
    unfolding reduced_frame reduced
    long-decoded =
        ap (long_decode s.epsilon) (entry-is sent k m a.at) ∙ long-decode-encode s.epsilon (plain_frame m) a.frame.sound.wide (below k m a.at)

  -- the frames are held in the order heard, and the verdicts are the station's
  pub long-hears :
      {heard : ℕ → Bool} {h : Heard} {entries : List (List ℕ)} {sources : List Source} {fresh : List Message}
      (buffer : List Message) (numbers : List ℕ) → News s v sent heard h entries sources fresh → SameMembers s.modulus h.queue (remaining s v buffer)
      → ((x : Message) → Memᴰ x buffer → ReadsTrue s.epsilon s.modulus v x.event.r) → length (buffer ++ fresh) ≤ long_most
      → long_hear s v (record { queue = map plain_frame buffer; verdicts = numbers }) (long_entries sent sources)
      ≡ record { queue = map plain_frame (buffer ++ fresh); verdicts = numbers ++ numbers_here h entries }
  unfolding long_hear fold_left numbers_by
  long-hears buffer numbers none_left same reads few =
      ap₂ (λ (l : List Message) (ns : List ℕ). record { queue = map plain_frame l; verdicts = ns }) (sym (append-nil buffer)) (sym (append-nil numbers))
  long-hears buffer numbers (again {h} {bytes} {entries} {sources} {fresh} k m a old e rest) same reads few =
      let verdict =
      in-engine k m bytes a (map plain_frame buffer) 16
      (long-repeat s v m h.queue buffer (incoming-reads k m bytes a) a.not_late reads same a.frame (below k m a.at) (in-station k m bytes a h.queue 16 e)) in
      let later = numbers_here (hear_one s (v % s.modulus) (judge_questions s (v % s.modulus)) h bytes) entries in
      ap (λ (x : Heard). long_hear s v x (long_entries sent sources)) (heard-repeat s v (map plain_frame buffer) numbers (long_entry (map long_bytes sent) (sent_by k)) verdict)
      ∙ (long-hears buffer (numbers ++ (16 ∷ [])) rest
      (subst (λ (q : List Frame). SameMembers s.modulus q (remaining s v buffer)) (sym (hear-refused s (v % s.modulus) (judge_questions s (v % s.modulus)) h bytes 15 e)) same) reads few
      ∙ ap (λ (ns : List ℕ). record { queue = map plain_frame (buffer ++ fresh); verdicts = ns })
      (append_assoc numbers (16 ∷ []) later ∙ ap (λ (n : ℕ). numbers ++ (n ∷ later)) (sym e)))
  long-hears buffer numbers (new {h} {bytes} {entries} {sources} {fresh} k m a old e rest) same reads few =
      let here = incoming-reads k m bytes a in
      let room : length buffer < long_most = omega (arith, length-append buffer (m ∷ fresh)) in
      let verdict =
      in-engine k m bytes a (map plain_frame buffer) 0
      (long-first s v m h.queue buffer here a.not_late reads same a.frame (below k m a.at) (in-station k m bytes a h.queue 0 e) room) in
      let later = numbers_here (hear_one s (v % s.modulus) (judge_questions s (v % s.modulus)) h bytes) entries in
      let whole : (buffer ++ (m ∷ [])) ++ fresh ≡ buffer ++ (m ∷ fresh) = append_assoc buffer (m ∷ []) fresh in
      ap (λ (x : Heard). long_hear s v x (long_entries sent sources))
      (heard-first s v (map plain_frame buffer) numbers (long_entry (map long_bytes sent) (sent_by k)) (plain_frame m) verdict (long-decoded k m bytes a)
      ∙ ap (λ (q : List Frame). record { queue = q; verdicts = numbers ++ (0 ∷ []) }) (sym (map-append plain_frame buffer (m ∷ []))))
      ∙ (long-hears (buffer ++ (m ∷ [])) (numbers ++ (0 ∷ [])) rest
      (subst (λ (q : List Frame). SameMembers s.modulus q (remaining s v (buffer ++ (m ∷ [])))) (sym (take-queue s (v % s.modulus) h bytes m (decoded s v sent k m bytes a) e))
      (subst (λ (l : List Message). SameMembers s.modulus (insert_at (place_for s (v % s.modulus) h.queue (reduced_frame s.modulus m)) (reduced_frame s.modulus m) h.queue) l)
      (sym (remaining-snoc s v buffer m (omega (arith, a.not_late))))
      (members-insert s.modulus (place_for s (v % s.modulus) h.queue (reduced_frame s.modulus m)) m h.queue (remaining s v buffer) same)))
      (λ x t.
      elim (Memᴰ.append_cases buffer t) [
        | inl q ↦ reads x q
        | inr q ↦ rw (Memᴰ.eq_of_singleton q) here
      ])
      (omega (arith, ap length whole))
      ∙ ap₂ (λ (l : List Message) (ns : List ℕ). record { queue = map plain_frame l; verdicts = ns }) whole
      (append_assoc numbers (0 ∷ []) later ∙ ap (λ (n : ℕ). numbers ++ (n ∷ later)) (sym e)))

  -- the stamp takes the same frames in, at its own clock
  take_long :
      (k : ℕ) (m : Message) (bytes : List ℕ) (t : Timestamp) → Incoming s v sent k m bytes
      → long_absorb_by 0 s v (long_decode s.epsilon (long_entry (map long_bytes sent) (sent_by k))) (at_clock v t)
      ≡ at_clock v (absorb_by 0 s (v % s.modulus) (decode s.epsilon bytes) t)
  unfolding reading_of reduced_frame reduced
  take_long k m bytes t a =
      let here = incoming-reads k m bytes a in
      ap (λ (f : Frame). long_absorb_by 0 s v f (at_clock v t)) (long-decoded k m bytes a)
      ∙ (absorb-moved s.epsilon v s.modulus m.event.r (near s.epsilon s.modulus (v % s.modulus) (m.event.r % s.modulus)) v m.event.r t (reduced s.modulus m.event) (omega arith)
      ∙ ap (λ (f : Frame). at_clock v (absorb_by 0 s (v % s.modulus) f t)) (sym (decoded s v sent k m bytes a)))

  pub long-absorbs :
      {heard : ℕ → Bool} {h : Heard} {entries : List (List ℕ)} {sources : List Source} {fresh : List Message}
      (t : Timestamp) → News s v sent heard h entries sources fresh
      → long_absorb_all s v (at_clock v t) (long_entries sent sources) (numbers_here h entries) ≡ at_clock v (absorb_all s (v % s.modulus) t entries (numbers_here h entries))
  unfolding long_absorb_all absorb_all absorb_each numbers_by
  long-absorbs t none_left = refl
  long-absorbs t (again {h} {bytes} {entries} {sources} k m a old e rest) =
      let later = numbers_here (hear_one s (v % s.modulus) (judge_questions s (v % s.modulus)) h bytes) entries in
      ap (λ (n : ℕ). long_absorb_all s v (long_absorb_by n s v (long_decode s.epsilon (long_entry (map long_bytes sent) (sent_by k))) (at_clock v t)) (long_entries sent sources) later) e
      ∙ (long-absorbs t rest ∙ ap (λ (n : ℕ). at_clock v (absorb_all s (v % s.modulus) (absorb_by n s (v % s.modulus) (decode s.epsilon bytes) t) entries later)) (sym e))
  long-absorbs t (new {h} {bytes} {entries} {sources} k m a old e rest) =
      let later = numbers_here (hear_one s (v % s.modulus) (judge_questions s (v % s.modulus)) h bytes) entries in
      ap (λ (n : ℕ). long_absorb_all s v (long_absorb_by n s v (long_decode s.epsilon (long_entry (map long_bytes sent) (sent_by k))) (at_clock v t)) (long_entries sent sources) later) e
      ∙ (ap (λ (u : Timestamp). long_absorb_all s v u (long_entries sent sources) later) (take_long k m bytes t a)
      ∙ (long-absorbs (absorb_by 0 s (v % s.modulus) (decode s.epsilon bytes) t) rest
      ∙ ap (λ (n : ℕ). at_clock v (absorb_all s (v % s.modulus) (absorb_by n s (v % s.modulus) (decode s.epsilon bytes) t) entries later)) (sym e)))
