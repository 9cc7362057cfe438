-- The walk over the frames of a queue: one frame judged, one turn, the end.
-- Assumes nothing.
use Rattle.std.proofs.Common.{◌≡◌, ℕ, zero, suc, ◌+◌, ◌-◌, ◌*◌, ◌^◌, ◌<◌, ◌≤◌, Bool, true, false, cond, not, ◌||◌, eqb, ◌⊎◌, List, [], ◌∷◌, length, get_or, take, drop, set, sym, refl, ap, ◌∙◌, ap₂, inl, inr, zero-le, not-suc-le-zero, mul-le-mul_right, suc-mul, mul_comm, add-one, arith, length-drop, length-set, get_or-set_other, eq-eqb, ne_eqb}
use mathlib.Core.List.{Memᴰ}
use lib.ListN.{length-replicate, get_or-replicate}
use Rattle.laws.specs.Lists.{tab, any, placed_at}
use Rattle.laws.specs.Lex.{is_less}
use Rattle.laws.proofs.Lex.{lex-head-lt}
use Rattle.laws.proofs.Numbers.{clash, lt-or-ge, false-of-no, false_of_not, true_of_not, not-of-true, not_of_false, and_intro}
use Rattle.laws.proofs.Lists.{length-tab, get_or-tab, tab-suc, any_append, index-of-mem}
use Rattle.model.specs.Setup.{Setup, width, longest_frame, depth, holdback_length}
use Rattle.model.specs.Frame.{Frame, two_at, counts_of, decode, frame_end}
use Rattle.model.specs.Question.{first_no, frame_questions}
use Rattle.model.specs.Holdback.{passes, same_origin, sound_holdback}
use Rattle.model.specs.Order.{reading_of, due_near}
use Rattle.model.specs.Tick.{opening_queue}
use Rattle.lemmas.proofs.Bounds.{Limits}
use Rattle.timestamp.specs.declared.ordering.Rank.{Rank}
use Rattle.timestamp.specs.Ranks.{Ranked}
use Rattle.frame.specs.Newest.{newest_from}
use Rattle.holdback.specs.declared.keys.Key.{Key}
use Rattle.holdback.specs.declared.soundness.Judged.{Judged}
use Rattle.holdback.specs.declared.soundness.Walk.{Walk}
use Rattle.holdback.specs.Queue.{frame_start, bytes_at, frame_at, rank_of}
use Rattle.holdback.specs.Keys.{key_at, key_of, no_key, key_less, Roomy}
use Rattle.holdback.specs.Sound.{fits, follows, is_new, frame_sound, timely, unsound, judged_at, last_key, Recent, Walking, Starting, emptied, Walked}
use Rattle.holdback.specs.Seen.{Placeable, Within, rank_slot, slot_of, has_mark, with_mark, is_marked, marked, seen_table, table_length, word_length}
use Rattle.holdback.specs.Starts.{start_unit, start_entries, used_entries, front, all_front, entries_to, starts_of, highest, spread_starts}
use Rattle.holdback.proofs.RoundTrip.{Bytes, passing}
use Rattle.lemmas.proofs.FrameWalk.{lent, lent_is}
use Rattle.holdback.proofs.Frames.{start-zero, start-suc, start-inside, start-most, counts-at, counts-bytes, bytes_drop, held-tab, FormedUpTo, lent-frame, next_start, bytes-part}
use Rattle.holdback.proofs.Judging.{fitting, frame-fits, frame-follows, frame-new, sound-by, sound-few, sound-frames, sound-formed}
use Rattle.holdback.proofs.Started.{used-most, highest-before, highest-set, highest-front, spread-long, spread-below, spread-past, place_inside, sums-rise, starts_by, starts_none, start-at, spans-small}
use Rattle.holdback.proofs.Seen.{fitting-placeable, within, rank_below, rank-slot, seen_at, seen_more, length_seen}
use Rattle.holdback.proofs.Testing.{passes-by, unfit-passes, fits_by, rank-past, ranked, rank-low, rank-fits, places-placed, before-by}
use Rattle.holdback.proofs.Newest.{newest-roomy}
use Rattle.holdback.proofs.Keyed.{keys-say}

-- ---- one frame judged

sound-of-parts : (s : Setup) (v least : ℕ) (b : List ℕ) (i : ℕ) → fits s v least (bytes_at s.epsilon b i) ≡ true → follows s v b i ≡ true → is_new s b i ≡ true → frame_sound s v least b i ≡ true
unfolding frame_sound
sound-of-parts s v least b i x y z = and_intro x (and_intro y z)

start-low : (epsilon : ℕ) (b : List ℕ) (k : ℕ) → 2 ≤ frame_start epsilon b k
start-low epsilon b zero = omega (arith, start-zero epsilon b)
start-low epsilon b (suc k) = omega (arith, start-suc epsilon b k, start-low epsilon b k)

judged-no : (s : Setup) (v least : ℕ) (b : List ℕ) (i : ℕ) → frame_sound s v least b i ≡ false → unsound ≡ judged_at s v least b i
unfolding judged_at
judged-no s v least b i e = rw e

-- a key of no frame comes before that of each frame that fits
pub none_before : (s : Setup) (least : ℕ) (rank : Rank) (kn : List ℕ) → Limits s → Recent s least → timely s least rank ≡ true → key_less no_key (key_at s rank kn) ≡ true
unfolding key_less
none_before s least rank kn limits near h =
    ap is_less
    (lex-head-lt 0 (rank.reading + rank.c) (0 ∷ 0 ∷ 0 ∷ []) (newest_from s.epsilon rank.c 0 kn ∷ newest_from s.epsilon rank.c 8 kn ∷ rank_slot s rank ∷ [])
    (omega (arith, rank-past s least rank h, limits.modulus-least, limits.epsilon-pos)))

-- the counts of a frame of a queue of bytes are bytes
frame-bytes : (epsilon : ℕ) (b : List ℕ) → Bytes b → (k : ℕ) → Bytes (frame_at epsilon b k).stamp.kn
frame-bytes epsilon b bytes k =
    rw (← counts-at epsilon b k (frame_start epsilon b k) refl) (counts-bytes epsilon (drop (frame_start epsilon b k) b) (bytes_drop (frame_start epsilon b k) b bytes))

module _ {s : Setup} {v least : ℕ} {b table : List ℕ} {i : ℕ} {last : Key} {at : ℕ} (walk : Walking s v least b table i last at) where
  formed-so-far : FormedUpTo s.epsilon b i
  formed-so-far = sound-formed s v least b i walk.each

  -- the buffer has room for one more of the longest frames
  pub room-there : i < depth s.n s.epsilon s.delta → at + (39 + 2 * s.epsilon) ≤ length b
  unfolding holdback_length longest_frame width
  room-there few =
      let longest : ℕ = longest_frame s.epsilon in
      let all : suc i * longest ≤ depth s.n s.epsilon s.delta * longest = mul-le-mul_right longest few in
      omega (arith, walk.starts, start-most s.epsilon b i formed-so-far, all, walk.room, mul_comm longest (depth s.n s.epsilon s.delta), suc-mul i longest)

  pub lent-room : i < depth s.n s.epsilon s.delta → 39 + 2 * s.epsilon ≤ length (lent b at)
  lent-room few = omega (arith, room-there few, ap length (lent_is b at), length-drop at b)

  -- an entry has room for it
  pub at-low-enough : Limits s → i ≤ depth s.n s.epsilon s.delta → (i ≤ 1792) × (at < start_unit)
  at-low-enough limits few = rw walk.starts (spans-small s b i limits few formed-so-far)

  pub table-long : length table ≡ table_length
  table-long = ap length walk.table_is ∙ length_seen s v (tab i (frame_at s.epsilon b))

  placeable-before : Recent s least → (k : ℕ) → k < i → Placeable s v (frame_at s.epsilon b k)
  unfolding frame_at
  placeable-before near k h =
      fitting-placeable s v least (bytes_at s.epsilon b k) near (fitting s v least (bytes_at s.epsilon b k) (frame-fits s v least b k (walk.each k h)))

  -- the frames so far have places
  all-placeable : Recent s least → (g : Frame) → Memᴰ g (tab i (frame_at s.epsilon b)) → Placeable s v g
  all-placeable near g m =
      let frame : ℕ → Frame = frame_at s.epsilon b in
      let r = index-of-mem (frame 0) m in
      let l : r.0 < i = rw (length-tab i frame) at r.1 in
      let e : frame r.0 ≡ g = sym (get_or-tab i frame r.0 (frame 0) l) ∙ r.2 in
      rw (← e) (placeable-before near r.0 l)

  -- 10 to 12, by the number that the window gives
  window-frame : take (frame_end s.epsilon (lent b at)) (lent b at) ≡ bytes_at s.epsilon b i
  window-frame =
      lent-frame s.epsilon b at (at + frame_end s.epsilon (drop at b)) refl
      ∙ bytes-part s.epsilon b i at (at + frame_end s.epsilon (drop at b)) walk.starts (next_start s.epsilon b i at (frame_end s.epsilon (drop at b)) walk.starts (sym (ap (frame_end s.epsilon) (lent_is b at))))

  asked : (r : ℕ) → r ≡ first_no (frame_questions s (take (frame_end s.epsilon (lent b at)) (lent b at))) → eqb r 0 ≡ passes s (bytes_at s.epsilon b i)
  asked r e = passes-by s (take (frame_end s.epsilon (lent b at)) (lent b at)) r e ∙ ap (passes s) window-frame

  judged-unfit : fits s v least (bytes_at s.epsilon b i) ≡ false → unsound ≡ judged_at s v least b i
  judged-unfit e = judged-no s v least b i (false-of-no (frame_sound s v least b i) (λ h. clash (frame-fits s v least b i h) e))

  pub judged-failed : (r : ℕ) → r ≡ first_no (frame_questions s (take (frame_end s.epsilon (lent b at)) (lent b at))) → (r ≡ 0 → ⊥) → unsound ≡ judged_at s v least b i
  judged-failed r e n = judged-unfit (unfit-passes s v least (bytes_at s.epsilon b i) (sym (asked r e) ∙ ne_eqb r 0 n))

  pub passes-there : (r : ℕ) → r ≡ first_no (frame_questions s (take (frame_end s.epsilon (lent b at)) (lent b at))) → r ≡ 0 → passes s (bytes_at s.epsilon b i) ≡ true
  passes-there r e z = sym (asked r e) ∙ eq-eqb r 0 z

  module _ (passed : passes s (bytes_at s.epsilon b i) ≡ true) (size : ℕ) (es : size ≡ frame_end s.epsilon (lent b at)) where
    next-is : at + size ≡ frame_start s.epsilon b (suc i)
    next-is = next_start s.epsilon b i at size walk.starts es

    pub next-inside : at + size ≤ length b
    next-inside = omega (arith, next-is, start-inside s.epsilon b i (passing s (bytes_at s.epsilon b i) passed).well)

    part-is : take (at + size - at) (drop at b) ≡ bytes_at s.epsilon b i
    part-is = bytes-part s.epsilon b i at (at + size) walk.starts next-is

    pub part-below : (decode s.epsilon (take (at + size - at) (drop at b))).stamp.r < s.modulus
    part-below = rw part-is (passing s (bytes_at s.epsilon b i) passed).r-below

    -- its rank is read
    module _ (rank : Rank) (er : rank ≡ rank_of s v (decode s.epsilon (take (at + size - at) (drop at b)))) where
      own-rank : rank ≡ rank_of s v (frame_at s.epsilon b i)
      unfolding frame_at
      own-rank = er ∙ ap (λ (l : List ℕ). rank_of s v (decode s.epsilon l)) part-is

      own-counts : counts_of s.epsilon (lent b at) ≡ (frame_at s.epsilon b i).stamp.kn
      own-counts = ap (counts_of s.epsilon) (lent_is b at) ∙ counts-at s.epsilon b i at walk.starts

      own-ranked : Limits s → Ranked s.epsilon rank (frame_at s.epsilon b i).stamp.kn
      unfolding frame_at
      own-ranked limits =
          ranked s v (bytes_at s.epsilon b i) (frame_at s.epsilon b i).stamp.kn rank limits passed refl own-rank

      pub rank-small : Limits s → (rank.reading ≤ 2 ^ 17) × (rank.c < s.epsilon)
      rank-small limits = (rank-low s v (frame_at s.epsilon b i) rank limits own-rank, (own-ranked limits).lead)

      timely-is : timely s least rank ≡ fits s v least (bytes_at s.epsilon b i)
      unfolding frame_at
      timely-is = fits_by s v least (bytes_at s.epsilon b i) rank passed own-rank

      -- it is early or expired
      pub judged-untimely : (t : Bool) → t ≡ timely s least rank → not t ≡ true → unsound ≡ judged_at s v least b i
      judged-untimely t e n = judged-unfit (sym (e ∙ timely-is) ∙ false_of_not t n)

      pub fit_of : (t : Bool) → t ≡ timely s least rank → not t ≡ false → fits s v least (bytes_at s.epsilon b i) ≡ true
      fit_of t e n = sym (e ∙ timely-is) ∙ true_of_not t n

      -- and is neither: its key is made
      module _ (fit : fits s v least (bytes_at s.epsilon b i) ≡ true) (limits : Limits s) (below : v < s.modulus) (near : Recent s least) where
        own-placeable : Placeable s v (frame_at s.epsilon b i)
        unfolding frame_at
        own-placeable = fitting-placeable s v least (bytes_at s.epsilon b i) near (fitting s v least (bytes_at s.epsilon b i) fit)

        pub own-within : Within s rank
        own-within = within s v limits below (frame_at s.epsilon b i) rank own-placeable own-rank

        module _ (key : Key) (ek : key ≡ key_at s rank (counts_of s.epsilon (lent b at))) where
          own_key : key ≡ key_of s v (frame_at s.epsilon b i)
          own_key = ek ∙ ap₂ (key_at s) own-rank own-counts

          pub own-slot : key.slot ≡ rank_slot s rank
          own-slot = ap (λ (k : Key). k.slot) ek

          pub slot-low : key.slot < table_length * word_length
          slot-low = omega (arith, own-slot, rank_below s limits rank own-within)

          pub key-roomy : Roomy key
          unfolding frame_at
          key-roomy =
              let most : (j : ℕ) → placed_at 0 (counts_of s.epsilon (lent b at)) j ≤ 16 =
              λ j. rw own-counts (omega (arith, (passing s (bytes_at s.epsilon b i) passed).counts j, limits.n-most)) in
              rw ek (record {
                sum_below = omega (arith, rank-small limits, limits.epsilon-most);
                newest-below = newest-roomy s.epsilon rank.c 0 (counts_of s.epsilon (lent b at)) most;
                older-below = newest-roomy s.epsilon rank.c 8 (counts_of s.epsilon (lent b at)) most;
                slot-below = omega (arith, rank_below s limits rank own-within);
              })

          follows_by : Bytes b → (k : ℕ) → i ≡ k → key_less (last_key s v b k) (key_of s v (frame_at s.epsilon b k)) ≡ follows s v b k
          unfolding last_key follows
          follows_by bytes zero e =
              none_before s least (rank_of s v (frame_at s.epsilon b 0)) (frame_at s.epsilon b 0).stamp.kn limits near
              (ap (λ (n : ℕ). timely s least (rank_of s v (frame_at s.epsilon b n))) (sym e) ∙ (ap (timely s least) (sym own-rank) ∙ (timely-is ∙ fit)))
          follows_by bytes (suc k) e =
              let f : Frame = frame_at s.epsilon b k in
              let g : Frame = frame_at s.epsilon b (suc k) in
              let g-placeable : Placeable s v g = rw (← e) own-placeable in
              keys-say s (rank_of s v f) f.stamp.kn (rank_of s v g) g.stamp.kn limits (frame-bytes s.epsilon b bytes k) (frame-bytes s.epsilon b bytes (suc k))
              (within s v limits below f (rank_of s v f) (placeable-before near k (omega arith)) refl) (within s v limits below g (rank_of s v g) g-placeable refl)
              ∙ before-by s v f g (rank_of s v f) (rank_of s v g) f.stamp.kn g.stamp.kn refl refl refl refl

          ordered : Bytes b → key_less last key ≡ follows s v b i
          ordered bytes = ap₂ key_less walk.last-is own_key ∙ follows_by bytes i refl

          -- it does not follow
          pub judged-unordered : Bytes b → (t : Bool) → t ≡ key_less last key → not t ≡ true → unsound ≡ judged_at s v least b i
          judged-unordered bytes t e n =
              judged-no s v least b i
              (false-of-no (frame_sound s v least b i) (λ h. clash (e ∙ ordered bytes ∙ frame-follows s v least b i h) (false_of_not t n)))

          -- the look-up
          looked-up : (t : Bool) → t ≡ has_mark table key.slot → is_new s b i ≡ not t
          unfolding is_new is_marked
          looked-up t e =
              let f : Frame = frame_at s.epsilon b i in
              let queue : List Frame = tab i (frame_at s.epsilon b) in
              let same : t ≡ any (same_origin f) queue =
              e ∙ ap₂ has_mark walk.table_is (own-slot ∙ rank-slot s v f rank own-rank) ∙ seen_at s v limits below queue f (all-placeable near) own-placeable in
              ap not (sym same)

          pub judged-repeated : (t : Bool) → t ≡ has_mark table key.slot → t ≡ true → unsound ≡ judged_at s v least b i
          judged-repeated t e y =
              judged-no s v least b i
              (false-of-no (frame_sound s v least b i) (λ h. clash (frame-new s v least b i h) (looked-up t e ∙ not-of-true y)))

          pub judged-sound : Bytes b → (o t : Bool) → o ≡ key_less last key → not o ≡ false → t ≡ has_mark table key.slot → t ≡ false
              → ◌≡◌ {A = Judged} (record { end = at + size; key = key }) (judged_at s v least b i)
          unfolding judged_at
          judged-sound bytes o t eo mo et nt =
              let sound : frame_sound s v least b i ≡ true = sound-of-parts s v least b i fit (sym (eo ∙ ordered bytes) ∙ true_of_not o mo) (looked-up t et ∙ not_of_false nt) in
              rw sound (ap₂ (λ (n : ℕ) (k : Key). record { end = n; key = k }) next-is own_key)

-- ---- the whole walk

-- the frames whose sums have places below k, of the first i of a queue in order, and their entry
pub record Ended (s : Setup) (v : ℕ) (b : List ℕ) (i k entry : ℕ) : Type 0 where
  pub number : ℕ
  pub most : number ≤ i
  pub smaller : (j : ℕ) → j < number → due_near s v (frame_at s.epsilon b j) < s.modulus + k
  pub larger : number < i → s.modulus + k ≤ due_near s v (frame_at s.epsilon b number)
  pub entry-is : entry ≡ number * start_unit + frame_start s.epsilon b number

-- the table of starts at frame i: the largest entry up to a place is that of the frames so far
pub record Ending (s : Setup) (v : ℕ) (b : List ℕ) (i : ℕ) (starts : List ℕ) : Type 0 where
  pub long : length starts ≡ start_entries
  pub past : (k : ℕ) → used_entries s ≤ k → k < start_entries → get_or starts k 0 ≡ front
  pub each : (k : ℕ) → k < used_entries s → Ended s v b i k (highest starts (suc k))

pub ending-starts : {s : Setup} {v : ℕ} {b starts : List ℕ} → Limits s → starts ≡ all_front → Ending s v b 0 starts
ending-starts {s} {v} {b} {starts} limits e =
    record {
      long = ap length e ∙ length-replicate start_entries front;
      past = λ k _ h. ap (λ (l : List ℕ). get_or l k 0) e ∙ get_or-replicate start_entries k front 0 h;
      each = λ k h.
          record {
            number = 0;
            most = zero-le;
            smaller = λ j l. absurd (not-suc-le-zero l);
            larger = λ l. absurd (not-suc-le-zero l);
            entry-is = highest-front starts e (suc k) (omega (arith, used-most s limits)) ∙ omega (arith, start-zero s.epsilon b);
          };
    }

pub walk-starts : {s : Setup} {v least : ℕ} {b table starts : List ℕ} {count : ℕ} {last : Key} → last ≡ no_key → Starting s v b table starts count → Walking s v least b table 0 last 2
unfolding tab last_key
walk-starts {s} {v} {b} none begin =
    record {
      room = begin.room;
      starts = sym (start-zero s.epsilon b);
      last-is = none;
      each = λ k h. absurd (not-suc-le-zero h);
      table_is = begin.empty;
    }

pub starting-long : {s : Setup} {v : ℕ} {b table starts : List ℕ} {count : ℕ} → Starting s v b table starts count → length table ≡ table_length
starting-long {s} {v} begin = ap length begin.empty ∙ length_seen s v []

-- what a judged frame's answer says
pub judged-bad : (s : Setup) (v least : ℕ) (b : List ℕ) (i : ℕ) (judged : Judged) → judged ≡ judged_at s v least b i → judged.end ≡ 0 → frame_sound s v least b i ≡ false
unfolding judged_at
judged-bad s v least b i judged e z = go (frame_sound s v least b i) e
  where
    go : (t : Bool) → judged ≡ cond t (record { end = frame_start s.epsilon b (suc i); key = key_of s v (frame_at s.epsilon b i) }) unsound → t ≡ false
    go true h = let k : judged.end ≡ frame_start s.epsilon b (suc i) = ap (λ (q : Judged). q.end) h in absurd (omega (arith, start-low s.epsilon b (suc i)))
    go false h = refl

pub record Right (s : Setup) (v least : ℕ) (b : List ℕ) (i next : ℕ) (key : Key) : Type 0 where
  pub sound : frame_sound s v least b i ≡ true
  pub ends : next ≡ frame_start s.epsilon b (suc i)
  pub key-is : key ≡ key_of s v (frame_at s.epsilon b i)

pub judged-good : (s : Setup) (v least : ℕ) (b : List ℕ) (i : ℕ) (judged : Judged) → judged ≡ judged_at s v least b i → (judged.end ≡ 0 → ⊥) → Right s v least b i judged.end judged.key
unfolding judged_at
judged-good s v least b i judged e z = go (frame_sound s v least b i) refl e
  where
    go : (t : Bool) → frame_sound s v least b i ≡ t → judged ≡ cond t (record { end = frame_start s.epsilon b (suc i); key = key_of s v (frame_at s.epsilon b i) }) unsound → Right s v least b i judged.end judged.key
    go true h k = record { sound = h; ends = ap (λ (q : Judged). q.end) k; key-is = ap (λ (q : Judged). q.key) k }
    go false h k = absurd (z (ap (λ (q : Judged). q.end) k))

or_swap : (a b : Bool) → (a || (b || false)) ≡ (b || a)
or_swap true true = refl
or_swap true false = refl
or_swap false true = refl
or_swap false false = refl

any_last : (p : Frame → Bool) (k : ℕ) (f : ℕ → Frame) → any p (tab (suc k) f) ≡ (p (f k) || any p (tab k f))
unfolding any
any_last p k f = ap (any p) (tab-suc k f) ∙ any_append p (tab k f) (f k ∷ []) ∙ or_swap (any p (tab k f)) (p (f k))

module _ {s : Setup} {v least : ℕ} {b table : List ℕ} {i : ℕ} {last : Key} {at : ℕ} (walk : Walking s v least b table i last at) {next : ℕ} {key : Key} (right : Right s v least b i next key) where
  right-placeable : Recent s least → Placeable s v (frame_at s.epsilon b i)
  unfolding frame_at
  right-placeable near =
      fitting-placeable s v least (bytes_at s.epsilon b i) near (fitting s v least (bytes_at s.epsilon b i) (frame-fits s v least b i right.sound))

  right-slot : key.slot ≡ slot_of s v (frame_at s.epsilon b i)
  unfolding slot_of
  right-slot = ap (λ (k : Key). k.slot) right.key-is

  right-sum : key.sum ≡ reading_of s v (frame_at s.epsilon b i) + (frame_at s.epsilon b i).stamp.c
  right-sum = ap (λ (k : Key). k.sum) right.key-is

  pub judged-slot : Limits s → v < s.modulus → Recent s least → key.slot < table_length * word_length
  judged-slot limits below near =
      let rank : Rank = rank_of s v (frame_at s.epsilon b i) in
      omega (arith, right-slot, rank-slot s v (frame_at s.epsilon b i) rank refl, rank_below s limits rank (within s v limits below (frame_at s.epsilon b i) rank (right-placeable near) refl))

  -- its origin is new
  right_new : Limits s → v < s.modulus → Recent s least → is_marked s v (frame_at s.epsilon b i) (seen_table s v (tab i (frame_at s.epsilon b))) ≡ false
  unfolding is_new
  right_new limits below near =
      let f : Frame = frame_at s.epsilon b i in
      let queue : List Frame = tab i (frame_at s.epsilon b) in
      seen_at s v limits below queue f (all-placeable walk near) (right-placeable near) ∙ false_of_not (any (same_origin f) queue) (frame-new s v least b i right.sound)

  pub judged-new : Limits s → v < s.modulus → Recent s least → has_mark table key.slot ≡ false
  unfolding is_marked
  judged-new limits below near = ap₂ has_mark walk.table_is right-slot ∙ right_new limits below near

  each_more : (k : ℕ) → k < i + 1 → frame_sound s v least b k ≡ true
  each_more k h = go (lt-or-ge k i)
    where
      go : (k < i) ⊎ (i ≤ k) → frame_sound s v least b k ≡ true
      go (inl l) = walk.each k l
      go (inr l) = let e : i ≡ k = omega arith in rw (← e) right.sound

  pub walk-turns : Limits s → v < s.modulus → Recent s least → (l : List ℕ) → l ≡ with_mark table key.slot → Walking s v least b l (i + 1) key next
  unfolding marked last_key
  walk-turns limits below near l e =
      let f : Frame = frame_at s.epsilon b i in
      record {
        room = walk.room;
        starts = right.ends ∙ ap (frame_start s.epsilon b) (sym (add-one i));
        last-is = right.key-is ∙ ap (last_key s v b) (sym (add-one i));
        each = each_more;
        table_is =
            e ∙ ap₂ with_mark walk.table_is right-slot
            ∙ seen_more s v limits below (tab i (frame_at s.epsilon b)) (tab (suc i) (frame_at s.epsilon b)) f (λ p. any_last p i (frame_at s.epsilon b)) (right-placeable near) (right_new limits below near)
            ∙ ap (λ (n : ℕ). seen_table s v (tab n (frame_at s.epsilon b))) (sym (add-one i));
      }

  -- the frame for the table of starts
  pub judged-small : Limits s → key.sum ≤ 2 ^ 18
  unfolding frame_at
  judged-small limits =
      let rank : Rank = rank_of s v (frame_at s.epsilon b i) in
      let small = rank-fits s v least (bytes_at s.epsilon b i) rank limits (frame-fits s v least b i right.sound) refl in
      omega (arith, right-sum, small.0, small.1.0, limits.epsilon-most)

  pub judged-place : Limits s → entries_to s key.sum < used_entries s
  unfolding frame_at
  judged-place limits =
      omega (arith, places-placed s v (frame_at s.epsilon b i) right-sum, place_inside s v least limits (bytes_at s.epsilon b i) (frame-fits s v least b i right.sound))

  -- an entry has room for where it ends
  pub next_low : Limits s → v < s.modulus → Recent s least → i < depth s.n s.epsilon s.delta → (i + 1 ≤ 1792) × (next < start_unit)
  next_low limits below near few = at-low-enough (walk-turns limits below near (with_mark table key.slot) refl) limits (omega arith)

  -- its entry is larger than those so far
  entry-low : Limits s → i < depth s.n s.epsilon s.delta → {k entry : ℕ} → Ended s v b i k entry → entry ≤ (i + 1) * start_unit + next
  entry-low limits few {k} {entry} old =
      let m : ℕ = old.number in
      omega (arith, old.entry-is, old.most, (spans-small s b m limits (omega (arith, old.most)) (λ j h. formed-so-far walk j (omega (arith, old.most)))).1)

  pub ending-turns : Limits s → i < depth s.n s.epsilon s.delta → {k : ℕ} {starts l : List ℕ} → Ending s v b i starts
      → k ≡ entries_to s key.sum → l ≡ set starts k ((i + 1) * start_unit + next) → Ending s v b (i + 1) l
  ending-turns limits few {k} {starts} {l} old e h =
      let x : ℕ = (i + 1) * start_unit + next in
      let own : k ≡ due_near s v (frame_at s.epsilon b i) + 1 - s.modulus = e ∙ places-placed s v (frame_at s.epsilon b i) right-sum in
      let inside : k < used_entries s = omega (arith, e, judged-place limits) in
      record {
        long = ap length h ∙ length-set starts k x ∙ old.long;
        past = λ j a g. ap (λ (m : List ℕ). get_or m j 0) h ∙ get_or-set_other starts k j x 0 (λ q. omega arith) ∙ old.past j a g;
        each = λ j a. go j own inside (old.each j a) (lt-or-ge j k);
      }
    where
      go : (j : ℕ) → k ≡ due_near s v (frame_at s.epsilon b i) + 1 - s.modulus → k < used_entries s → Ended s v b i j (highest starts (suc j)) → (j < k) ⊎ (k ≤ j) → Ended s v b (i + 1) j (highest l (suc j))
      go j own inside o (inl a) =
          record {
            number = o.number;
            most = omega (arith, o.most);
            smaller = o.smaller;
            larger = λ g. elim (lt-or-ge o.number i) [
              | inl q ↦ o.larger q
              | inr q ↦ let same : o.number ≡ i = omega (arith, o.most) in rw same (omega (arith, own))
            ];
            entry-is = ap (λ (m : List ℕ). highest m (suc j)) h ∙ highest-before starts k ((i + 1) * start_unit + next) (suc j) (omega arith) ∙ o.entry-is;
          }
      go j own inside o (inr a) =
          record {
            number = i + 1;
            most = omega arith;
            smaller = λ n g. omega (arith, own, sums-rise s v least b i each_more n g);
            larger = λ g. absurd (omega arith);
            entry-is =
                ap (λ (m : List ℕ). highest m (suc j)) h
                ∙ highest-set starts k ((i + 1) * start_unit + next) (suc j) (omega (arith, inside, used-most s limits, old.long)) (omega arith) (entry-low limits few o)
                ∙ ap (λ (n : ℕ). (i + 1) * start_unit + n) (right.ends ∙ ap (frame_start s.epsilon b) (sym (add-one i)));
          }

-- in the end it is spread
pub ending-ends : {s : Setup} {v : ℕ} {b : List ℕ} {i count to : ℕ} {starts l : List ℕ} → Ending s v b i starts
    → count ≡ two_at b 0 → i ≤ count → count ≤ i → to ≡ used_entries s → l ≡ spread_starts to starts → l ≡ starts_of s v b
ending-ends {s} {v} {b} {i} {count} {to} {starts} {l} old count-is le ge used h =
    let spread : l ≡ spread_starts (used_entries s) starts = h ∙ ap (λ (n : ℕ). spread_starts n starts) used in
    starts_by s v b (spread-long starts (used_entries s) spread)
    (λ k a g.
    let o = old.each k a in
    spread-below starts (used_entries s) spread k a g ∙ o.entry-is
    ∙ start-at s v b {i = o.number} {at = frame_start s.epsilon b o.number} k refl (omega (arith, o.most, count-is)) o.smaller (λ q. o.larger (omega (arith, count-is))))
    (λ k a g. spread-past starts (used_entries s) spread k a g ∙ old.past k a g)

pub walked-no : {s : Setup} {v least : ℕ} {b table starts : List ℕ} {walk : Walk} → walk ≡ emptied → sound_holdback s v least b ≡ false → table ≡ seen_table s v [] → starts ≡ all_front
    → Walked s v least b walk.sound walk.count walk.end table starts
unfolding opening_queue
walked-no {s} {v} {b} w h e none =
    record {
      sound-is = ap (λ (x : Walk). x.sound) w ∙ sym h;
      count-is = ap (λ (x : Walk). x.count) w ∙ rw h;
      stop_is = ap (λ (x : Walk). x.end) w ∙ rw h;
      table_is = e ∙ rw h;
      starts_is = none ∙ rw h;
    }

pub walk-fails : (s : Setup) (v least : ℕ) (b : List ℕ) (i : ℕ) → i < two_at b 0 → frame_sound s v least b i ≡ false → sound_holdback s v least b ≡ false
walk-fails s v least b i l h = false-of-no (sound_holdback s v least b) (λ e. clash (sound-frames s v least b e i l) h)

pub too_many : (s : Setup) (v least : ℕ) (b : List ℕ) → depth s.n s.epsilon s.delta < two_at b 0 → sound_holdback s v least b ≡ false
too_many s v least b h = false-of-no (sound_holdback s v least b) (λ e. omega (arith, sound-few s v least b e))

pub walked-yes : {s : Setup} {v least : ℕ} {b t m table starts : List ℕ} {count i : ℕ} {last : Key} {at : ℕ} → Starting s v b t m count → Walking s v least b table i last at → starts ≡ starts_of s v b → i ≤ count → count ≤ i
    → Walked s v least b true count at table starts
unfolding opening_queue
walked-yes {s} {v} {least} {b} {count} {i} begin walk filled-all le ge =
    let all : i ≡ two_at b 0 = omega (arith, begin.count-is) in
    let sound : sound_holdback s v least b ≡ true =
    sound-by s v least b (omega (arith, begin.count-is, begin.few)) (λ k l. walk.each k (omega arith)) in
    record {
      sound-is = sym sound;
      count-is = begin.count-is ∙ rw sound;
      stop_is = walk.starts ∙ rw (sound, all);
      table_is =
          walk.table_is
          ∙ ap (seen_table s v)
          (ap (λ (n : ℕ). tab n (frame_at s.epsilon b)) all ∙ sym (held-tab s.epsilon b) ∙ rw sound);
      starts_is = filled-all ∙ rw sound;
    }

-- a queue of no frames: the tables of origins and of starts are its own already
pub walked_none : {s : Setup} {v least : ℕ} {b table starts : List ℕ} {count : ℕ} → Starting s v b table starts count → count ≡ 0 → Walked s v least b true count 2 table starts
unfolding tab
walked_none {s} {v} {least} {b} {table} {starts} {count} begin none =
    let walk : Walking s v least b table 0 no_key 2 = walk-starts refl begin in
    let empty : two_at b 0 ≡ 0 = sym begin.count-is ∙ none in
    walked-yes begin walk (begin.all-front ∙ starts_none s v b (held-tab s.epsilon b ∙ rw empty refl)) zero-le (omega arith)
