-- Hearing a batch: the tick takes the messages that are new to the process, and no others.
-- Assumes nothing.
use Prim.Native.Nat.{ℕ, ◌+◌, ◌%◌, ◌≤◌, ◌<◌}
use native.Mathlib.Omega.{arith}
use native.Mathlib.Nat.{add-zero}
use mathlib.Core.Path.{◌≡◌, refl, sym, ap, subst, ◌∙◌}
use mathlib.Core.Logic.{inl, inr}
use mathlib.Core.Bool.{Bool, true, false, ◌||◌}
use mathlib.Core.List.{List, [], ◌∷◌, ◌++◌, map, append_assoc, append-nil}
use mathlib.Core.List.Memᴰ
use mathlib.Core.List.{Memᴰ}
use mathlib.Core.Option.{Option, some}
use lib.Dec.{eqb}
use lib.ListN.{length, get_elem?}
use borrow.Author.Tests.{eqb-true, eq-eqb, ne_eqb}
use Rattle.laws.specs.Lists.{any, select, insert_at, apart, fold_left}
use Rattle.laws.proofs.Numbers.{true-or-false, clash, and_intro, or_left, or_right, or_cases, or-false-left, or-false-right, or-false-intro, false-of-no, eq-or-ne}
use Rattle.laws.proofs.Lists.{any-of-mem, any-of-false, get_elem?-lt, select-append, mem-insert_at-new, mem-insert_at-old, mem-of-insert_at}
use Rattle.laws.proofs.Sorted.{apart_cons}
use Rattle.model.specs.Setup.{Setup}
use Rattle.model.specs.Timestamp.{Timestamp, near, absorb}
use Rattle.model.specs.Frame.{Frame, encode, decode}
use Rattle.model.specs.Order.{reading_of}
use Rattle.model.specs.Question.{first_no}
use Rattle.model.specs.Judge.{Heard, hear, hear_one, judge_questions, place_for, absorb_by, absorb_all, absorb_each}
use Rattle.model.specs.Tick.{taken_count}
use Rattle.model.specs.Published.{Message, same_message, new_ones}
use Rattle.model.specs.Run.{Source, sent_by}
use Rattle.theory.specs.Demand2.{reduced, reduced_frame, messages_heard, verdicts_on}
use Rattle.theory.specs.Demand3.{is_from}
use Rattle.lemmas.proofs.Bounds.{FrameOk}
use Rattle.lemmas.proofs.RoundTrip.{decode-encode}
use Rattle.lemmas.proofs.Hearing.{numbers_by}
use Rattle.lemmas.proofs.Receiving.{numbers_of, hear-one-verdict}
use Rattle.lemmas.proofs.OneTick.{taken_more}
use Rattle.theory.proofs.HearLoop.{some_inj}
use Rattle.theory.proofs.Plain.{hear-taken, hear-refused}
use Rattle.theory.proofs.PublishedEvent.{absorb_events}
use Rattle.theory.proofs.PublishedQueue.{SameMembers}

pub same_self : (m : Message) → same_message m m ≡ true
unfolding same_message
same_self m = and_intro (eq-eqb m.sender m.sender refl) (eq-eqb m.event.r m.event.r refl)

-- the message that call k sent, as an entry of a call for v
pub record Incoming (s : Setup) (v : ℕ) (sent : List (Option Message)) (k : ℕ) (m : Message) (bytes : List ℕ) : Type 0 where
  pub at : get_elem? sent k ≡ some (some m)
  pub bytes-are : bytes ≡ encode (reduced_frame s.modulus m)
  pub frame : FrameOk s (reduced_frame s.modulus m)
  pub not-ahead : m.event.r < v + s.epsilon
  pub not_late : v ≤ m.event.r + s.delta + s.epsilon

-- sender and clock tell which call sent a message
abbrev pub Told : List (Option Message) → Type 0
Told sent =
    (k l : ℕ) (m m' : Message) → get_elem? sent k ≡ some (some m) → get_elem? sent l ≡ some (some m') → same_message m m' ≡ true → k ≡ l

-- the messages seen are those of the calls heard
pub record SeenIs (sent : List (Option Message)) (heard : ℕ → Bool) (seen : List Message) : Type 0 where
  pub into : (m : Message) → Memᴰ m seen → (k : ℕ) × (get_elem? sent k ≡ some (some m)) × (heard k ≡ true)
  pub back : (k : ℕ) (m : Message) → get_elem? sent k ≡ some (some m) → heard k ≡ true → Memᴰ m seen

-- one entry more has been heard
abbrev pub also : (ℕ → Bool) → ℕ → ℕ → Bool
also heard k j = heard j || eqb j k

-- what is new in a batch, entry by entry, and what the tick does with it
pub data News (s : Setup) (v : ℕ) (sent : List (Option Message)) : (ℕ → Bool) → Heard → List (List ℕ) → List Source → List Message → Type 0 where
  none_left : {heard : ℕ → Bool} {h : Heard} → News s v sent heard h [] [] []
  again :
      {heard : ℕ → Bool} {h : Heard} {bytes : List ℕ} {entries : List (List ℕ)} {sources : List Source} {fresh : List Message}
      (k : ℕ) (m : Message) → Incoming s v sent k m bytes → heard k ≡ true
      → first_no (judge_questions s (v % s.modulus) h.queue bytes) ≡ 16
      → News s v sent (also heard k) (hear_one s (v % s.modulus) (judge_questions s (v % s.modulus)) h bytes) entries sources fresh
      → News s v sent heard h (bytes ∷ entries) (sent_by k ∷ sources) fresh
  new :
      {heard : ℕ → Bool} {h : Heard} {bytes : List ℕ} {entries : List (List ℕ)} {sources : List Source} {fresh : List Message}
      (k : ℕ) (m : Message) → Incoming s v sent k m bytes → heard k ≡ false
      → first_no (judge_questions s (v % s.modulus) h.queue bytes) ≡ 0
      → News s v sent (also heard k) (hear_one s (v % s.modulus) (judge_questions s (v % s.modulus)) h bytes) entries sources fresh
      → News s v sent heard h (bytes ∷ entries) (sent_by k ∷ sources) (m ∷ fresh)

-- a taken message, in the stamp and in the queue
take-stamp :
    (s : Setup) (v : ℕ) (t : Timestamp) (bytes : List ℕ) (m : Message) → decode s.epsilon bytes ≡ reduced_frame s.modulus m
    → absorb_by 0 s v (decode s.epsilon bytes) t ≡ absorb s.epsilon s.modulus t (near s.epsilon s.modulus v (m.event.r % s.modulus)) (reduced s.modulus m.event)
unfolding reading_of reduced_frame reduced
take-stamp s v t bytes m f = rw f refl

pub take-queue :
    (s : Setup) (v : ℕ) (h : Heard) (bytes : List ℕ) (m : Message) → decode s.epsilon bytes ≡ reduced_frame s.modulus m
    → first_no (judge_questions s v h.queue bytes) ≡ 0
    → (hear_one s v (judge_questions s v) h bytes).queue ≡ insert_at (place_for s v h.queue (reduced_frame s.modulus m)) (reduced_frame s.modulus m) h.queue
take-queue s v h bytes m f e =
    hear-taken s v (judge_questions s v) h bytes e ∙ ap (λ (g : Frame). insert_at (place_for s v h.queue g) g h.queue) f

-- one message more in buffer and queue
pub members-insert :
    (B i : ℕ) (m : Message) (queue : List Frame) (buffer : List Message) → SameMembers B queue buffer
    → SameMembers B (insert_at i (reduced_frame B m) queue) (buffer ++ (m ∷ []))
members-insert B i m queue buffer same =
    record {
      into = λ f t.
          elim (mem-of-insert_at i (reduced_frame B m) queue t) [
            | inl e ↦ (m, Memᴰ.append_right buffer (Memᴰ.head refl), e)
            | inr q ↦ let (x, there, e) = same.into f q in (x, Memᴰ.append_left (m ∷ []) there, e)
          ];
      back = λ x t.
          elim (Memᴰ.append_cases buffer t) [
            | inl q ↦ mem-insert_at-old i (reduced_frame B m) (same.back x q)
            | inr q ↦ rw (Memᴰ.eq_of_singleton q) (mem-insert_at-new i (reduced_frame B m) queue)
          ];
    }

-- a verdict more
taken-no : (l : List ℕ) → taken_count (l ++ (16 ∷ [])) ≡ taken_count l
unfolding taken_count select
taken-no l = ap length (select-append (λ x. eqb x 0) l (16 ∷ []) ∙ append-nil (select (λ x. eqb x 0) l))

module _ (s : Setup) (v : ℕ) (sent : List (Option Message)) where
  pub decoded : (k : ℕ) (m : Message) (bytes : List ℕ) → Incoming s v sent k m bytes → decode s.epsilon bytes ≡ reduced_frame s.modulus m
  decoded k m bytes a = rw a.bytes-are (decode-encode s.epsilon (reduced_frame s.modulus m) a.frame.sound.wide)

  -- the stamp takes the new messages in turn
  pub news-stamp :
      {heard : ℕ → Bool} {h : Heard} {entries : List (List ℕ)} {sources : List Source} {fresh : List Message}
      (t : Timestamp) → News s v sent heard h entries sources fresh
      → absorb_all s (v % s.modulus) t entries (numbers_of s (v % s.modulus) (judge_questions s (v % s.modulus)) h entries)
      ≡ absorb_events s.epsilon s.modulus (v % s.modulus) t (map (λ (m : Message). m.event) fresh)
  unfolding absorb_all absorb_each numbers_by absorb_events
  news-stamp t none_left = refl
  news-stamp t (again {h} {bytes} {fresh} k m a old e rest) =
      let one : ℕ → Timestamp = λ n. absorb_by n s (v % s.modulus) (decode s.epsilon bytes) t in
      news-stamp (one (first_no (judge_questions s (v % s.modulus) h.queue bytes))) rest
      ∙ ap (λ (n : ℕ). absorb_events s.epsilon s.modulus (v % s.modulus) (one n) (map (λ (x : Message). x.event) fresh)) e
  news-stamp t (new {h} {bytes} {fresh} k m a old e rest) =
      let one : ℕ → Timestamp = λ n. absorb_by n s (v % s.modulus) (decode s.epsilon bytes) t in
      news-stamp (one (first_no (judge_questions s (v % s.modulus) h.queue bytes))) rest
      ∙ ap (λ (x : Timestamp). absorb_events s.epsilon s.modulus (v % s.modulus) x (map (λ (x : Message). x.event) fresh))
      (ap one e ∙ take-stamp s (v % s.modulus) t bytes m (decoded k m bytes a))

  -- the queue gets their frames
  pub news-queue :
      {heard : ℕ → Bool} {h : Heard} {entries : List (List ℕ)} {sources : List Source} {fresh : List Message}
      (buffer : List Message) → News s v sent heard h entries sources fresh → SameMembers s.modulus h.queue buffer
      → SameMembers s.modulus (hear s (v % s.modulus) (judge_questions s (v % s.modulus)) h entries).queue (buffer ++ fresh)
  unfolding hear fold_left
  news-queue buffer none_left same = rw (append-nil buffer) same
  news-queue buffer (again {h} {bytes} {fresh} k m a old e rest) same =
      news-queue buffer rest (subst (λ (q : List Frame). SameMembers s.modulus q buffer) (sym (hear-refused s (v % s.modulus) (judge_questions s (v % s.modulus)) h bytes 15 e)) same)
  news-queue buffer (new {h} {bytes} {entries} {fresh} k m a old e rest) same =
      subst (λ (l : List Message). SameMembers s.modulus (hear s (v % s.modulus) (judge_questions s (v % s.modulus)) (hear_one s (v % s.modulus) (judge_questions s (v % s.modulus)) h bytes) entries).queue l) (append_assoc buffer (m ∷ []) fresh)
      (news-queue (buffer ++ (m ∷ [])) rest
      (subst (λ (q : List Frame). SameMembers s.modulus q (buffer ++ (m ∷ []))) (sym (take-queue s (v % s.modulus) h bytes m (decoded k m bytes a) e))
      (members-insert s.modulus (place_for s (v % s.modulus) h.queue (reduced_frame s.modulus m)) m h.queue buffer same)))

  -- each is counted as taken
  pub news-taken :
      {heard : ℕ → Bool} {h : Heard} {entries : List (List ℕ)} {sources : List Source} {fresh : List Message}
      → News s v sent heard h entries sources fresh
      → taken_count (hear s (v % s.modulus) (judge_questions s (v % s.modulus)) h entries).verdicts ≡ taken_count h.verdicts + length fresh
  unfolding hear fold_left
  news-taken {h} none_left = sym (add-zero (taken_count h.verdicts))
  news-taken (again {h} {bytes} {fresh} k m a old e rest) =
      let one : taken_count (hear_one s (v % s.modulus) (judge_questions s (v % s.modulus)) h bytes).verdicts ≡ taken_count h.verdicts =
      ap taken_count (hear-one-verdict s (v % s.modulus) (judge_questions s (v % s.modulus)) h bytes ∙ ap (λ (n : ℕ). h.verdicts ++ (n ∷ [])) e) ∙ taken-no h.verdicts in
      news-taken rest ∙ ap (λ (n : ℕ). n + length fresh) one
  news-taken (new {h} {bytes} {entries} {fresh} k m a old e rest) =
      let one : taken_count (hear_one s (v % s.modulus) (judge_questions s (v % s.modulus)) h bytes).verdicts ≡ taken_count h.verdicts + 1 =
      ap taken_count (hear-one-verdict s (v % s.modulus) (judge_questions s (v % s.modulus)) h bytes ∙ ap (λ (n : ℕ). h.verdicts ++ (n ∷ [])) e) ∙ taken_more h.verdicts in
      let more : taken_count (hear s (v % s.modulus) (judge_questions s (v % s.modulus)) (hear_one s (v % s.modulus) (judge_questions s (v % s.modulus)) h bytes) entries).verdicts ≡ taken_count (hear_one s (v % s.modulus) (judge_questions s (v % s.modulus)) h bytes).verdicts + length fresh = news-taken rest in
      omega arith

  -- where a new message comes from
  pub news-from :
      {heard : ℕ → Bool} {h : Heard} {entries : List (List ℕ)} {sources : List Source} {fresh : List Message}
      → News s v sent heard h entries sources fresh → (m : Message) → Memᴰ m fresh
      → (k : ℕ) × (bytes : List ℕ) × Incoming s v sent k m bytes × (heard k ≡ false) × (any (is_from k) sources ≡ true)
  unfolding any is_from
  news-from none_left x t = absurd (Memᴰ.not-nil t)
  news-from (again {heard} k m a old e rest) x t =
      let (j, bytes, b, first, there) = news-from rest x t in
      (j, bytes, b, or-false-left (heard j) (eqb j k) first, or_right (eqb j k) there)
  news-from (new {heard} {bytes} {sources} k m a old e rest) x t =
      elim (Memᴰ.cases_cons t) [
        | inl q ↦ (k, bytes, rw q a, old, or_left (any (is_from k) sources) (eq-eqb k k refl))
        | inr q ↦
            let (j, bytes', b, first, there) = news-from rest x q in
            (j, bytes', b, or-false-left (heard j) (eqb j k) first, or_right (eqb j k) there)
      ]

  -- a message heard for the first time is new
  pub news-all :
      {heard : ℕ → Bool} {h : Heard} {entries : List (List ℕ)} {sources : List Source} {fresh : List Message}
      → News s v sent heard h entries sources fresh → (j : ℕ) (x : Message) → get_elem? sent j ≡ some (some x) → heard j ≡ false
      → any (is_from j) sources ≡ true → Memᴰ x fresh
  unfolding any is_from
  news-all none_left j x at first there = absurd (clash there refl)
  news-all (again {heard} {sources} k m a old e rest) j x at first there =
      elim (eq-or-ne j k) [
        | inl q ↦ absurd (clash old (ap heard (sym q) ∙ first))
        | inr q ↦ news-all rest j x at (or-false-intro first (ne_eqb j k q)) (rw (ne_eqb j k q) at there)
      ]
  news-all (new {heard} {sources} k m a old e rest) j x at first there =
      elim (eq-or-ne j k) [
        | inl q ↦ Memᴰ.head (some_inj (some_inj (sym at ∙ (ap (get_elem? sent) q ∙ a.at))))
        | inr q ↦ Memᴰ.tail (news-all rest j x at (or-false-intro first (ne_eqb j k q)) (rw (ne_eqb j k q) at there))
      ]

  -- what is heard was sent
  pub news-sent :
      {heard : ℕ → Bool} {h : Heard} {entries : List (List ℕ)} {sources : List Source} {fresh : List Message}
      → News s v sent heard h entries sources fresh → (j : ℕ) → any (is_from j) sources ≡ true → j < length sent
  unfolding any is_from
  news-sent none_left j there = absurd (clash there refl)
  news-sent (again {sources} k m a old e rest) j there =
      elim (or_cases (eqb j k) (any (is_from j) sources) there) [
        | inl q ↦ rw (eqb-true j k q) (get_elem?-lt sent k a.at)
        | inr q ↦ news-sent rest j q
      ]
  news-sent (new {sources} k m a old e rest) j there =
      elim (or_cases (eqb j k) (any (is_from j) sources) there) [
        | inl q ↦ rw (eqb-true j k q) (get_elem?-lt sent k a.at)
        | inr q ↦ news-sent rest j q
      ]

  -- no two of them are alike
  pub news-apart :
      {heard : ℕ → Bool} {h : Heard} {entries : List (List ℕ)} {sources : List Source} {fresh : List Message}
      → Told sent → News s v sent heard h entries sources fresh → apart same_message fresh ≡ true
  unfolding apart
  news-apart told none_left = refl
  news-apart told (again k m a old e rest) = news-apart told rest
  news-apart told (new {heard} {fresh} k m a old e rest) =
      apart_cons same_message m fresh
      (any-of-false (same_message m) fresh
      (λ x t.
      let (j, bytes, b, first, there) = news-from rest x t in
      false-of-no (same_message m x)
      (λ q. clash (eq-eqb j k (sym (told k j m x a.at b.at q))) (or-false-right (heard j) (eqb j k) first))))
      (news-apart told rest)

-- passing over a repeat: what is seen is what was heard
pub seen-any :
    (sent : List (Option Message)) (heard : ℕ → Bool) (seen : List Message) → Told sent → SeenIs sent heard seen
    → (k : ℕ) (m : Message) → get_elem? sent k ≡ some (some m) → any (same_message m) seen ≡ heard k
seen-any sent heard seen told is k m at =
    elim (true-or-false (heard k)) [
      | inl e ↦ any-of-mem (same_message m) (is.back k m at e) (same_self m) ∙ sym e
      | inr e ↦
          any-of-false (same_message m) seen
          (λ x t.
          let (j, there, old) = is.into x t in
          false-of-no (same_message m x) (λ q. clash old (ap heard (sym (told k j m x at there q)) ∙ e)))
          ∙ sym e
    ]

-- one more heard: known before, or new
pub seen-again : (sent : List (Option Message)) (heard : ℕ → Bool) (seen : List Message) (k : ℕ) → heard k ≡ true → SeenIs sent heard seen → SeenIs sent (also heard k) seen
seen-again sent heard seen k old is =
    record {
      into = λ m t. let (j, at, e) = is.into m t in (j, at, or_left (eqb j k) e);
      back = λ j m at e.
          elim (or_cases (heard j) (eqb j k) e) [
            | inl q ↦ is.back j m at q
            | inr q ↦ is.back j m at (ap heard (eqb-true j k q) ∙ old)
          ];
    }

pub seen-new :
    (sent : List (Option Message)) (heard : ℕ → Bool) (seen : List Message) (k : ℕ) (m : Message) → get_elem? sent k ≡ some (some m)
    → SeenIs sent heard seen → SeenIs sent (also heard k) (m ∷ seen)
seen-new sent heard seen k m at is =
    record {
      into = λ x t.
          elim (Memᴰ.cases_cons t) [
            | inl q ↦ (k, at ∙ ap (λ (y : Message). some (some y)) (sym q), or_right (heard k) (eq-eqb k k refl))
            | inr q ↦ let (j, there, e) = is.into x q in (j, there, or_left (eqb j k) e)
          ];
      back = λ j x there e.
          elim (or_cases (heard j) (eqb j k) e) [
            | inl q ↦ Memᴰ.tail (is.back j x there q)
            | inr q ↦ Memᴰ.head (some_inj (some_inj (sym there ∙ (ap (get_elem? sent) (eqb-true j k q) ∙ at))))
          ];
    }

-- the heads of the two lists of messages
pub heard-cons : (sent : List (Option Message)) (k : ℕ) (m : Message) (sources : List Source) → get_elem? sent k ≡ some (some m) → messages_heard sent (sent_by k ∷ sources) ≡ m ∷ messages_heard sent sources
unfolding messages_heard
heard-cons sent k m sources e = rw e

pub new-ones-again : (seen : List Message) (m : Message) (ms : List Message) → any (same_message m) seen ≡ true → new_ones seen (m ∷ ms) ≡ new_ones seen ms
unfolding new_ones
new-ones-again seen m ms e = rw e

pub new-ones-new : (seen : List Message) (m : Message) (ms : List Message) → any (same_message m) seen ≡ false → new_ones seen (m ∷ ms) ≡ m ∷ new_ones (m ∷ seen) ms
unfolding new_ones
new-ones-new seen m ms e = rw e

pub verdicts-again : (seen : List Message) (m : Message) (ms : List Message) → any (same_message m) seen ≡ true → verdicts_on seen (m ∷ ms) ≡ 16 ∷ verdicts_on seen ms
unfolding verdicts_on
verdicts-again seen m ms e = rw e

pub verdicts-new : (seen : List Message) (m : Message) (ms : List Message) → any (same_message m) seen ≡ false → verdicts_on seen (m ∷ ms) ≡ 0 ∷ verdicts_on (m ∷ seen) ms
unfolding verdicts_on
verdicts-new seen m ms e = rw e

-- general: one element more between two lists
one_more : (l : List ℕ) (x : ℕ) (rest l' all : List ℕ) → l' ≡ l ++ (x ∷ []) → all ≡ x ∷ rest → l' ++ rest ≡ l ++ all
one_more l x rest l' all e e' = rw (e, e') (append_assoc l (x ∷ []) rest)

-- the verdicts: 0 for what is new, 16 for what is not
pub news-verdicts :
    (s : Setup) (v : ℕ) (sent : List (Option Message)) {heard : ℕ → Bool} {h : Heard} {entries : List (List ℕ)} {sources : List Source} {fresh : List Message}
    (seen : List Message) → Told sent → News s v sent heard h entries sources fresh → SeenIs sent heard seen
    → (hear s (v % s.modulus) (judge_questions s (v % s.modulus)) h entries).verdicts ≡ h.verdicts ++ verdicts_on seen (messages_heard sent sources)
unfolding hear fold_left messages_heard verdicts_on
news-verdicts s v sent {h} seen told none_left is = sym (append-nil h.verdicts)
news-verdicts s v sent {heard} {h} seen told (again {bytes} {sources} k m a old e rest) is =
    news-verdicts s v sent seen told rest (seen-again sent heard seen k old is)
    ∙ one_more h.verdicts 16 (verdicts_on seen (messages_heard sent sources)) (hear_one s (v % s.modulus) (judge_questions s (v % s.modulus)) h bytes).verdicts
    (verdicts_on seen (messages_heard sent (sent_by k ∷ sources)))
    (hear-one-verdict s (v % s.modulus) (judge_questions s (v % s.modulus)) h bytes ∙ ap (λ (n : ℕ). h.verdicts ++ (n ∷ [])) e)
    (ap (verdicts_on seen) (heard-cons sent k m sources a.at)
    ∙ verdicts-again seen m (messages_heard sent sources) (seen-any sent heard seen told is k m a.at ∙ old))
news-verdicts s v sent {heard} {h} seen told (new {bytes} {sources} k m a old e rest) is =
    news-verdicts s v sent (m ∷ seen) told rest (seen-new sent heard seen k m a.at is)
    ∙ one_more h.verdicts 0 (verdicts_on (m ∷ seen) (messages_heard sent sources)) (hear_one s (v % s.modulus) (judge_questions s (v % s.modulus)) h bytes).verdicts
    (verdicts_on seen (messages_heard sent (sent_by k ∷ sources)))
    (hear-one-verdict s (v % s.modulus) (judge_questions s (v % s.modulus)) h bytes ∙ ap (λ (n : ℕ). h.verdicts ++ (n ∷ [])) e)
    (ap (verdicts_on seen) (heard-cons sent k m sources a.at)
    ∙ verdicts-new seen m (messages_heard sent sources) (seen-any sent heard seen told is k m a.at ∙ old))
