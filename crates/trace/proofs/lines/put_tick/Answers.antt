-- `trace::lines::put_tick` meets its contract. Assumes nothing.
use Prim.Native.Nat.{ℕ}
use mathlib.Core.Path.{◌≡◌, sym, ap}
use mathlib.Core.List.{◌++◌}
use Rattle.text.specs.Text.{newline}
use Rattle.trace.specs.Text.{tick_line, fields, tick_word, mend_word, c_word, took_word, sent_word, gave_word}
use Rattle.text.proofs.Putting.{ahead, ahead-as, ahead-first, ahead-next}
use Rattle.trace.proofs.lines.put_tick.Goals as goal

pub put_fields-after_c-requires : goal.put_fields-after_c-requires
unfolding tick_line
put_fields-after_c-requires c =
    let args = c.args in
    let same : tick_line args.f.clock args.f.repair args.f.c args.f.taken args.f.sent args.f.delivered ≡ fields tick_word args.f.clock mend_word args.f.repair c_word args.f.c ++ (fields took_word args.f.taken sent_word c.flag_of-sent.result gave_word args.f.delivered ++ newline) = ap (λ (n : ℕ). fields tick_word args.f.clock mend_word args.f.repair c_word args.f.c ++ (fields took_word args.f.taken sent_word n gave_word args.f.delivered ++ newline)) (sym c.flag_of-sent.ensures) in
    let s0 = ahead-as same (ahead args.buf.now args.at (tick_line args.f.clock args.f.repair args.f.c args.f.taken args.f.sent args.f.delivered) c.requires) in
    ahead-first (fields tick_word args.f.clock mend_word args.f.repair c_word args.f.c) (fields took_word args.f.taken sent_word c.flag_of-sent.result gave_word args.f.delivered ++ newline) s0

pub put_fields-after_delivered-requires : goal.put_fields-after_delivered-requires
unfolding tick_line
put_fields-after_delivered-requires c =
    let args = c.args in
    let same : tick_line args.f.clock args.f.repair args.f.c args.f.taken args.f.sent args.f.delivered ≡ fields tick_word args.f.clock mend_word args.f.repair c_word args.f.c ++ (fields took_word args.f.taken sent_word c.flag_of-sent.result gave_word args.f.delivered ++ newline) = ap (λ (n : ℕ). fields tick_word args.f.clock mend_word args.f.repair c_word args.f.c ++ (fields took_word args.f.taken sent_word n gave_word args.f.delivered ++ newline)) (sym c.flag_of-sent.ensures) in
    let s0 = ahead-as same (ahead args.buf.now args.at (tick_line args.f.clock args.f.repair args.f.c args.f.taken args.f.sent args.f.delivered) c.requires) in
    let s1 = ahead-next (fields tick_word args.f.clock mend_word args.f.repair c_word args.f.c) (fields took_word args.f.taken sent_word c.flag_of-sent.result gave_word args.f.delivered ++ newline) s0 c.put_fields-after_c.ensures in
    ahead-first (fields took_word args.f.taken sent_word c.flag_of-sent.result gave_word args.f.delivered) (newline) s1

pub put_word-requires : goal.put_word-requires
unfolding tick_line
put_word-requires c =
    let args = c.args in
    let same : tick_line args.f.clock args.f.repair args.f.c args.f.taken args.f.sent args.f.delivered ≡ fields tick_word args.f.clock mend_word args.f.repair c_word args.f.c ++ (fields took_word args.f.taken sent_word c.flag_of-sent.result gave_word args.f.delivered ++ newline) = ap (λ (n : ℕ). fields tick_word args.f.clock mend_word args.f.repair c_word args.f.c ++ (fields took_word args.f.taken sent_word n gave_word args.f.delivered ++ newline)) (sym c.flag_of-sent.ensures) in
    let s0 = ahead-as same (ahead args.buf.now args.at (tick_line args.f.clock args.f.repair args.f.c args.f.taken args.f.sent args.f.delivered) c.requires) in
    let s1 = ahead-next (fields tick_word args.f.clock mend_word args.f.repair c_word args.f.c) (fields took_word args.f.taken sent_word c.flag_of-sent.result gave_word args.f.delivered ++ newline) s0 c.put_fields-after_c.ensures in
    (ahead-next (fields took_word args.f.taken sent_word c.flag_of-sent.result gave_word args.f.delivered) (newline) s1 c.put_fields-after_delivered.ensures).room

pub returns : goal.returns
unfolding tick_line
returns c =
    let args = c.args in
    let same : tick_line args.f.clock args.f.repair args.f.c args.f.taken args.f.sent args.f.delivered ≡ fields tick_word args.f.clock mend_word args.f.repair c_word args.f.c ++ (fields took_word args.f.taken sent_word c.flag_of-sent.result gave_word args.f.delivered ++ newline) = ap (λ (n : ℕ). fields tick_word args.f.clock mend_word args.f.repair c_word args.f.c ++ (fields took_word args.f.taken sent_word n gave_word args.f.delivered ++ newline)) (sym c.flag_of-sent.ensures) in
    let s0 = ahead-as same (ahead args.buf.now args.at (tick_line args.f.clock args.f.repair args.f.c args.f.taken args.f.sent args.f.delivered) c.requires) in
    let s1 = ahead-next (fields tick_word args.f.clock mend_word args.f.repair c_word args.f.c) (fields took_word args.f.taken sent_word c.flag_of-sent.result gave_word args.f.delivered ++ newline) s0 c.put_fields-after_c.ensures in
    (ahead-next (fields took_word args.f.taken sent_word c.flag_of-sent.result gave_word args.f.delivered) (newline) s1 c.put_fields-after_delivered.ensures).done c.put_word.ensures
