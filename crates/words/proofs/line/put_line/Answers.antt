-- `words::line::put_line` meets its contract. Assumes nothing.
use Prim.Native.Nat.{ℕ, ◌≤◌}
use mathlib.Core.List.{List, ◌++◌, map}
use native.Mathlib.Omega.{arith}
use lib.ListN.{length}
use Rattle.model.specs.Frame.{Frame, decode}
use Rattle.setup.specs.Views.{setup_of}
use Rattle.text.specs.Text.{decimal, space}
use Rattle.text.proofs.Putting.{Ahead, ahead, ahead-as, ahead-first, ahead-next}
use Rattle.words.specs.Words.{or_dash, word_of, spaced, line_of}
use Rattle.words.specs.Answers.{shown}
use Rattle.words.proofs.Short.{short-lines}
use Rattle.words.proofs.Writing.{line_made, r-most}
use Rattle.words.proofs.line.put_line.Goals.{After-r_of-r}
use Rattle.words.proofs.line.put_line.Goals as goal

abbrev frame : After-r_of-r → Frame
frame c = decode c.args.setup.epsilon c.args.entry.now

abbrev line : After-r_of-r → List ℕ
line c = line_of (setup_of c.args.setup) c.args.position c.args.number (frame c)

abbrev station : After-r_of-r → List ℕ
station c = space ++ or_dash c.args.number c.station_of-station.result

abbrev clock : After-r_of-r → List ℕ
clock c = space ++ or_dash c.args.number c.r_of-r.result

abbrev word : After-r_of-r → List ℕ
word c = space ++ word_of c.args.number

abbrev end : After-r_of-r → List ℕ
end c = spaced (map decimal (shown c.rule_limits_of-limits.result))

short : (c : After-r_of-r) → length (line c) ≤ 29
unfolding decode
short c =
    short-lines (setup_of c.args.setup) c.args.position c.args.number (frame c) c.requires.setup_value.0 c.requires.setup_value.1
    c.requires.position_bound.0 (omega (arith, c.shared_slice_known-1.given 1)) (r-most c.args.setup.epsilon c.args.entry.now (omega (arith, c.shared_slice_known-1.given 2)) (omega (arith, c.shared_slice_known-1.given 3)))

all : (c : After-r_of-r) → Ahead c.args.buf.now c.args.at (line c) c.args.buf.now c.args.at (decimal c.args.position ++ (station c ++ (clock c ++ (word c ++ end c))))
all c =
    ahead-as
    (line_made (setup_of c.args.setup) c.args.position c.args.number (frame c) c.station_of-station.result c.r_of-r.result
    (shown c.rule_limits_of-limits.result) (c.station_of-station.ensures c.args.setup.epsilon) (c.r_of-r.ensures c.args.setup.epsilon) c.rule_limits_of-limits.ensures)
    (ahead c.args.buf.now c.args.at (line c) (omega (arith, short c, c.requires.position_bound.1)))

pub rule_limits_of-limits-requires : goal.rule_limits_of-limits-requires
rule_limits_of-limits-requires c = c.requires.setup_value.0

pub put_decimal-after_position-requires : goal.put_decimal-after_position-requires
put_decimal-after_position-requires c =
    let s0 = all (goal.at.put_decimal-after_position-requires c).After-r_of-r in
    ahead-first (decimal c.args.position) (station (goal.at.put_decimal-after_position-requires c).After-r_of-r ++ (clock (goal.at.put_decimal-after_position-requires c).After-r_of-r ++ (word (goal.at.put_decimal-after_position-requires c).After-r_of-r ++ end (goal.at.put_decimal-after_position-requires c).After-r_of-r))) s0

pub put_or_dash-after_station-requires : goal.put_or_dash-after_station-requires
put_or_dash-after_station-requires c =
    let s0 = all (goal.at.put_or_dash-after_station-requires c).After-r_of-r in
    let s1 = ahead-next (decimal c.args.position) (station (goal.at.put_or_dash-after_station-requires c).After-r_of-r ++ (clock (goal.at.put_or_dash-after_station-requires c).After-r_of-r ++ (word (goal.at.put_or_dash-after_station-requires c).After-r_of-r ++ end (goal.at.put_or_dash-after_station-requires c).After-r_of-r))) s0 c.put_decimal-after_position.ensures in
    ahead-first (station (goal.at.put_or_dash-after_station-requires c).After-r_of-r) (clock (goal.at.put_or_dash-after_station-requires c).After-r_of-r ++ (word (goal.at.put_or_dash-after_station-requires c).After-r_of-r ++ end (goal.at.put_or_dash-after_station-requires c).After-r_of-r)) s1

pub put_or_dash-after_r-requires : goal.put_or_dash-after_r-requires
put_or_dash-after_r-requires c =
    let s0 = all (goal.at.put_or_dash-after_r-requires c).After-r_of-r in
    let s1 = ahead-next (decimal c.args.position) (station (goal.at.put_or_dash-after_r-requires c).After-r_of-r ++ (clock (goal.at.put_or_dash-after_r-requires c).After-r_of-r ++ (word (goal.at.put_or_dash-after_r-requires c).After-r_of-r ++ end (goal.at.put_or_dash-after_r-requires c).After-r_of-r))) s0 c.put_decimal-after_position.ensures in
    let s2 = ahead-next (station (goal.at.put_or_dash-after_r-requires c).After-r_of-r) (clock (goal.at.put_or_dash-after_r-requires c).After-r_of-r ++ (word (goal.at.put_or_dash-after_r-requires c).After-r_of-r ++ end (goal.at.put_or_dash-after_r-requires c).After-r_of-r)) s1 c.put_or_dash-after_station.ensures in
    ahead-first (clock (goal.at.put_or_dash-after_r-requires c).After-r_of-r) (word (goal.at.put_or_dash-after_r-requires c).After-r_of-r ++ end (goal.at.put_or_dash-after_r-requires c).After-r_of-r) s2

pub put_verdict-after_word-requires : goal.put_verdict-after_word-requires
put_verdict-after_word-requires c =
    let s0 = all (goal.at.put_verdict-after_word-requires c).After-r_of-r in
    let s1 = ahead-next (decimal c.args.position) (station (goal.at.put_verdict-after_word-requires c).After-r_of-r ++ (clock (goal.at.put_verdict-after_word-requires c).After-r_of-r ++ (word (goal.at.put_verdict-after_word-requires c).After-r_of-r ++ end (goal.at.put_verdict-after_word-requires c).After-r_of-r))) s0 c.put_decimal-after_position.ensures in
    let s2 = ahead-next (station (goal.at.put_verdict-after_word-requires c).After-r_of-r) (clock (goal.at.put_verdict-after_word-requires c).After-r_of-r ++ (word (goal.at.put_verdict-after_word-requires c).After-r_of-r ++ end (goal.at.put_verdict-after_word-requires c).After-r_of-r)) s1 c.put_or_dash-after_station.ensures in
    let s3 = ahead-next (clock (goal.at.put_verdict-after_word-requires c).After-r_of-r) (word (goal.at.put_verdict-after_word-requires c).After-r_of-r ++ end (goal.at.put_verdict-after_word-requires c).After-r_of-r) s2 c.put_or_dash-after_r.ensures in
    ahead-first (word (goal.at.put_verdict-after_word-requires c).After-r_of-r) (end (goal.at.put_verdict-after_word-requires c).After-r_of-r) s3

pub put_rule_limits-requires : goal.put_rule_limits-requires
put_rule_limits-requires c =
    let s0 = all (goal.at.put_rule_limits-requires c).After-r_of-r in
    let s1 = ahead-next (decimal c.args.position) (station (goal.at.put_rule_limits-requires c).After-r_of-r ++ (clock (goal.at.put_rule_limits-requires c).After-r_of-r ++ (word (goal.at.put_rule_limits-requires c).After-r_of-r ++ end (goal.at.put_rule_limits-requires c).After-r_of-r))) s0 c.put_decimal-after_position.ensures in
    let s2 = ahead-next (station (goal.at.put_rule_limits-requires c).After-r_of-r) (clock (goal.at.put_rule_limits-requires c).After-r_of-r ++ (word (goal.at.put_rule_limits-requires c).After-r_of-r ++ end (goal.at.put_rule_limits-requires c).After-r_of-r)) s1 c.put_or_dash-after_station.ensures in
    let s3 = ahead-next (clock (goal.at.put_rule_limits-requires c).After-r_of-r) (word (goal.at.put_rule_limits-requires c).After-r_of-r ++ end (goal.at.put_rule_limits-requires c).After-r_of-r) s2 c.put_or_dash-after_r.ensures in
    let s4 = ahead-next (word (goal.at.put_rule_limits-requires c).After-r_of-r) (end (goal.at.put_rule_limits-requires c).After-r_of-r) s3 c.put_verdict-after_word.ensures in
    s4.room

pub returns : goal.returns
returns c =
    let s0 = all (goal.at.returns c).After-r_of-r in
    let s1 = ahead-next (decimal c.args.position) (station (goal.at.returns c).After-r_of-r ++ (clock (goal.at.returns c).After-r_of-r ++ (word (goal.at.returns c).After-r_of-r ++ end (goal.at.returns c).After-r_of-r))) s0 c.put_decimal-after_position.ensures in
    let s2 = ahead-next (station (goal.at.returns c).After-r_of-r) (clock (goal.at.returns c).After-r_of-r ++ (word (goal.at.returns c).After-r_of-r ++ end (goal.at.returns c).After-r_of-r)) s1 c.put_or_dash-after_station.ensures in
    let s3 = ahead-next (clock (goal.at.returns c).After-r_of-r) (word (goal.at.returns c).After-r_of-r ++ end (goal.at.returns c).After-r_of-r) s2 c.put_or_dash-after_r.ensures in
    let s4 = ahead-next (word (goal.at.returns c).After-r_of-r) (end (goal.at.returns c).After-r_of-r) s3 c.put_verdict-after_word.ensures in
    let put = s4.done c.put_rule_limits.ensures in
    record { put = put; upper_bound = omega (arith, short (goal.at.returns c).After-r_of-r, put.ends) }
