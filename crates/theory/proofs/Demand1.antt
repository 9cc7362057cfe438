-- Demand 1: a call that fails a check changes nothing, and every other call is accepted. Of a station's, an observer's and an engine's calls, and of
-- a station's and an engine's reader and writer.
-- Assumes nothing.
use Prim.Native.Nat.{ℕ, zero, suc, ◌+◌, ◌*◌}
use mathlib.Core.Path.{◌≡◌, refl, sym, ap, ◌∙◌}
use mathlib.Core.Bool.{Bool, true, false, ◌&&◌, cond}
use mathlib.Core.List.{List, [], ◌∷◌}
use lib.Dec.{leb, ltb, eqb}
use lib.ListN.{length}
use borrow.Author.Tests.{eqb-true}
use Rattle.model.specs.Setup.{Setup, width, longest_frame, in_limits, is_member}
use Rattle.model.specs.Frame.{Frame, encode, decode}
use Rattle.model.specs.Batch.{exact_batch}
use Rattle.model.specs.Question.{Question, ask, first_no}
use Rattle.model.specs.Codec.{ask_payload, read_questions, ReadAnswer, read_by, read, frame_of, write_questions, WriteAnswer, written_by, write_frame}
use Rattle.model.specs.Tick.{Input, Output, holdback_size, call_questions, refusal, acceptance, tick_by, tick}
use Rattle.model.specs.Observer.{Listening, Listened, listen_questions, not_listened, listened, listen_by, listen}
use Rattle.model.specs.Long.{long_encode, long_decode, ask_long_setup, long_frame_questions, long_read, long_write_questions, long_write_frame, long_call_questions, long_acceptance, long_tick_by, long_tick}
use Rattle.model.specs.Schedule.{steady, widening, widest_of, Wider, wider_setup, both_in_limits, ask_both, ask_wider, change_near, same_pairs, along}
use Rattle.model.specs.Wider.{wider_decode, sized_questions, wider_call_questions, wider_acceptance, wider_tick_by, tick_in}
use Rattle.model.specs.WiderCalls.{listen_in_questions, wider_listened, wider_listen_by, listen_in, pairs_of, read_in_questions, ReadInAnswer, is_wide, read_in_by, read_in, written_half, write_in_questions, write_in}
use Rattle.theory.specs.Demand1.{Checked, Demand1, Demand1Observer, not_read, not_written, CheckedRead, CheckedWrite, Demand1Read, Demand1Write}
use Rattle.theory.specs.LongAny.{Demand1Long, Demand1LongRead, Demand1LongWrite}
use Rattle.theory.specs.WiderAny.{Demand1In, numbers_in, Demand1NumbersIn, Demand1ListenIn, not_read_in, Demand1ReadIn, Demand1WriteIn}

-- what goes by the number of the first question that gets a no
checked :
    (A : Type 0) (number_of : A → ℕ) (questions : List Question) (refusing : ℕ → A) (accepting : A) (by : ℕ → A)
    → by 0 ≡ accepting → number_of accepting ≡ 0 → ((k : ℕ) → by (suc k) ≡ refusing (suc k)) → ((k : ℕ) → number_of (refusing (suc k)) ≡ suc k)
    → Checked A number_of questions refusing accepting (by (first_no questions))
checked A number_of questions refusing accepting by taken zero_is refused is =
    record { refused = λ k e. ap by e ∙ refused k; accepted = λ e. ap by e ∙ taken; number = go (first_no questions) }
  where
    go : (k : ℕ) → number_of (by k) ≡ k
    go zero = ap number_of taken ∙ zero_is
    go (suc k) = ap number_of (refused k) ∙ is k

pub demand1 : (i : Input) → Demand1 i
unfolding tick acceptance refusal
demand1 i =
    checked Output (λ (o : Output). o.answer.number) (call_questions i) (refusal i) (acceptance i) (λ k. tick_by k i) refl refl (λ k. refl) (λ k. refl)

-- 02, 2.6: an observer's
pub demand1-observer : (i : Listening) → Demand1Observer i
unfolding listen listened not_listened
demand1-observer i =
    checked Listened (λ (o : Listened). o.number) (listen_questions i) (not_listened i) (listened i) (λ k. listen_by k i) refl refl (λ k. refl) (λ k. refl)

-- 02, 2.9: an engine's
pub demand1-long : (i : Input) → Demand1Long i
unfolding long_tick long_acceptance refusal
demand1-long i =
    checked Output (λ (o : Output). o.answer.number) (long_call_questions i) (refusal i) (long_acceptance i) (λ k. long_tick_by k i) refl refl (λ k. refl) (λ k. refl)

-- a reader and a writer, whose frame is told and laid down in whatever way
checked-read : (questions : List Question) (f : Frame) → CheckedRead questions f (read_by (first_no questions) f)
checked-read questions f =
    checked ReadAnswer (λ (a : ReadAnswer). a.number) questions not_read (read_by 0 f) (λ k. read_by k f) refl refl (λ k. refl) (λ k. refl)

checked-write : (questions : List Question) (bytes buffer : List ℕ) → CheckedWrite questions bytes buffer (written_by (first_no questions) bytes buffer)
checked-write questions bytes buffer =
    checked WriteAnswer (λ (a : WriteAnswer). a.number) questions (not_written buffer) (written_by 0 bytes buffer) (λ k. written_by k bytes buffer) refl refl
    (λ k. refl) (λ k. refl)

pub demand1-read : Demand1Read
unfolding read
demand1-read s own bytes = checked-read (read_questions s own bytes) (decode s.epsilon bytes)

pub demand1-write : Demand1Write
unfolding write_frame
demand1-write s own station t payload buffer =
    checked-write (write_questions s own station t payload buffer) (encode (frame_of s.epsilon station t payload)) buffer

-- 02, 2.9: an engine's
pub demand1-long-read : Demand1LongRead
unfolding long_read
demand1-long-read s own bytes = checked-read (ask_long_setup s own ∷ long_frame_questions s bytes) (long_decode s.epsilon bytes)

pub demand1-long-write : Demand1LongWrite
unfolding long_write_frame
demand1-long-write s own station t payload buffer =
    let f = frame_of s.epsilon station t payload in
    checked-write (long_write_questions s own f buffer) (long_encode f) buffer

-- 02, 2.10: of the calls with both pairs
pub demand1-in : (w : Wider) (i : Input) → Demand1In w i
unfolding tick_in wider_acceptance refusal
demand1-in w i =
    let g = along i.setup w i.clock in
    checked Output (λ (o : Output). o.answer.number) (wider_call_questions w i) (refusal i) (wider_acceptance g i) (λ k. wider_tick_by k g i) refl refl (λ k. refl)
    (λ k. refl)

-- in 02's words: its wider pair gives the sizes, and each && is two checks of one number
wider-sizes : (s : Setup) (w : Wider) (v : ℕ) → widest_of (along s w v) ≡ wider_setup s w
unfolding along same_pairs
wider-sizes s w v = go (eqb w.epsilon s.epsilon) (eqb w.delta s.delta) refl refl
  where
    go :
        (a b : Bool) → eqb w.epsilon s.epsilon ≡ a → eqb w.delta s.delta ≡ b
        → widest_of (cond (a && b) (steady s) (widening s (wider_setup s w) (change_near s.modulus v w))) ≡ wider_setup s w
    go true true e d =
        let same : wider_setup s w ≡ s
        = λ j. record { n = s.n; epsilon = eqb-true w.epsilon s.epsilon e j; delta = eqb-true w.delta s.delta d j; modulus = s.modulus } in
        sym same
    go true false e d = refl
    go false b e d = refl

setup-flat :
    (a b c d m e f : Bool) (qs rs : List Question) → first_no qs ≡ first_no rs
    → first_no (ask ((a && (b && (c && d))) && m) 1 ∷ ask (e && f) 19 ∷ qs)
    ≡ first_no (ask a 1 ∷ ask b 1 ∷ ask c 1 ∷ ask d 1 ∷ ask m 1 ∷ ask e 19 ∷ ask f 19 ∷ rs)
unfolding first_no
setup-flat false b c d m e f qs rs h = refl
setup-flat true false c d m e f qs rs h = refl
setup-flat true true false d m e f qs rs h = refl
setup-flat true true true false m e f qs rs h = refl
setup-flat true true true true false e f qs rs h = refl
setup-flat true true true true true false f qs rs h = refl
setup-flat true true true true true true false qs rs h = refl
setup-flat true true true true true true true qs rs h = h

sizes-flat :
    (v h p x a b c : Bool)
    → first_no (ask v 2 ∷ ask h 3 ∷ ask p 4 ∷ ask x 5 ∷ ask (a && (b && c)) 6 ∷ []) ≡ first_no (ask v 2 ∷ ask h 3 ∷ ask p 4 ∷ ask x 5 ∷ ask a 6 ∷ ask b 6 ∷ ask c 6 ∷ [])
unfolding first_no
sizes-flat v h p x false b c = refl
sizes-flat v h p x true false c = refl
sizes-flat v h p x true true false = refl
sizes-flat v h p x true true true = refl

pub demand1-numbers-in : Demand1NumbersIn
unfolding numbers_in wider_call_questions sized_questions ask_both ask_wider ask_payload both_in_limits is_member longest_frame width
demand1-numbers-in w i =
    let s = i.setup in
    let new = wider_setup s w in
    (demand1-in w i).number
    ∙ (ap (λ (size : Setup). first_no (ask_both s w i.own ∷ ask_wider s w ∷ sized_questions size i)) (wider-sizes s w i.clock)
    ∙ setup-flat (in_limits s) (in_limits new) (ltb w.change s.modulus) (leb w.marked 1) (ltb i.own s.n) (leb s.epsilon w.epsilon)
    (leb s.delta w.delta) _ _
    (sizes-flat (ltb i.clock s.modulus) (eqb (length i.holdback) (holdback_size new)) (leb (length i.payload) 32) (exact_batch i.batch)
    (leb (39 + 2 * w.epsilon) (length i.outgoing)) (leb 255 (length i.verdicts)) (leb (holdback_size new) (length i.delivery))))

pub demand1-listen-in : (w : Wider) (i : Listening) → Demand1ListenIn w i
unfolding listen_in wider_listened not_listened
demand1-listen-in w i =
    let g = along i.setup w i.clock in
    checked Listened (λ (o : Listened). o.number) (listen_in_questions w i) (not_listened i) (wider_listened g i) (λ k. wider_listen_by k g i) refl refl (λ k. refl)
    (λ k. refl)

pub demand1-read-in : Demand1ReadIn
unfolding read_in
demand1-read-in s w own bytes =
    let f = wider_decode (pairs_of s w) bytes in
    checked ReadInAnswer (λ (a : ReadInAnswer). a.number) (read_in_questions s w own bytes) not_read_in (read_in_by 0 (is_wide s (pairs_of s w) f) f)
    (λ k. read_in_by k (is_wide s (pairs_of s w) f) f) refl refl (λ k. refl) (λ k. refl)

pub demand1-write-in : Demand1WriteIn
unfolding write_in
demand1-write-in s w own station wide t payload buffer =
    let f = frame_of (written_half s w wide) station t payload in
    checked-write (write_in_questions s w own (written_half s w wide) f buffer) (encode f) buffer
