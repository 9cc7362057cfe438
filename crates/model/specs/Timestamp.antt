-- 01, "The stamp", and the steps of "One tick" that change it.
use Rattle.std.specs.Prelude.{ℕ, ◌+◌, ◌-◌, ◌%◌, max, Bool, ◌&&◌, cond, List, ◌++◌, leb, ltb, length, drop, get_or, set, replicate}
use Rattle.laws.specs.Lists.{tab, every, placed_at, padded, within}
use Rattle.model.specs.Setup.{width, widest}

-- 01: the stamp. r is "the clock at the event", c "how far the largest known clock lies ahead of r", kn the counts, from offset −ε up
pub record Timestamp : Type 0 where
  pub r : ℕ
  pub c : ℕ
  -- 01: the counts
  pub kn : List ℕ

-- 01: "what the station knows of the number of events at" a clock, of a stamp with 2ε counts whose r stands at a reading; "Outside those
-- offsets a count reads as 0". This alone knows where an offset stands in the list: −ε at its front
unfoldable pub count_at : ℕ → ℕ → List ℕ → ℕ → ℕ
count_at epsilon reading kn clock = placed_at reading kn (clock + epsilon)

-- the counts for a clock and for those after it
unfoldable pub counts_from : ℕ → ℕ → List ℕ → ℕ → List ℕ
counts_from epsilon reading kn clock =
    tab (reading + length kn - (clock + epsilon)) (λ k. count_at epsilon reading kn (clock + k))

-- 01: "The sum is r + c"
unfoldable pub sum : ℕ → ℕ → ℕ
sum reading c = reading + c

-- 01: "each count ≤" the bound
unfoldable pub at_most : ℕ → List ℕ → Bool
at_most bound kn = every (λ x. leb x bound) kn

-- 01: "A stamp is sound if c ≤ ε − 1, each count ≤ n, the count at offset c is at least 1, and all counts above offset c are 0"
unfoldable pub sound_timestamp : ℕ → ℕ → Timestamp → Bool
sound_timestamp n epsilon t =
    leb t.c (epsilon - 1) && (at_most n t.kn && (leb 1 (count_at epsilon 0 t.kn t.c)
    && at_most 0 (counts_from epsilon 0 t.kn (t.c + 1))))

-- 01: "u is (r − v) modulo B"
unfoldable pub ahead : ℕ → ℕ → ℕ → ℕ
ahead modulus v r = (r + (modulus - v)) % modulus

-- 02, 2.2: the step from the clock r of the tables to a new clock v: (v − r) modulo B
unfoldable pub clock_step : ℕ → ℕ → ℕ → ℕ
clock_step modulus r v = ahead modulus r v

-- 01: "r is below B and one before v modulo B". 02, 2.2: "A step of 1 to ε is no longer damage": r lies 1 to ε before v
abbrev pub sound_clock : ℕ → ℕ → ℕ → ℕ → Bool
sound_clock epsilon modulus v r = ltb r modulus && within 1 epsilon (clock_step modulus r v)

-- the stamp and the counts of tables are sound for a new clock, beside the test of their r
abbrev pub sound_beside : Bool → ℕ → ℕ → Timestamp → Bool
sound_beside clock n epsilon t = sound_timestamp n epsilon t && (clock && at_most (n - 1) (counts_from epsilon 0 t.kn 1))

-- 01: "sound for a new clock v if the stamp is sound, r is below B and one before v modulo B, and counts at offsets 1 and up are at most n − 1"
unfoldable pub sound_tables : ℕ → ℕ → ℕ → ℕ → Timestamp → Bool
sound_tables n epsilon modulus v t = sound_beside (sound_clock epsilon modulus v t.r) n epsilon t

-- the 2ε counts alone. 01: "Places past the 2ε counts are ignored"
unfoldable pub trimmed : ℕ → Timestamp → Timestamp
trimmed epsilon t = record { r = t.r; c = t.c; kn = tab (width epsilon) (λ i. get_or t.kn i 0) }

-- 01: they "come back 0"
unfoldable pub widened : Timestamp → Timestamp
widened t = record { r = t.r; c = t.c; kn = padded widest t.kn }

-- 01: "If u ≤ ε − 1, r is u ahead. Otherwise it is B − u behind." v itself reads B, so that no reading is negative
unfoldable pub near : ℕ → ℕ → ℕ → ℕ → ℕ
near epsilon modulus v r =
    cond (leb (ahead modulus v r) (epsilon - 1)) (modulus + ahead modulus v r) (modulus - (modulus - ahead modulus v r))

-- 01: "Fresh tables at a clock have that r, c 0, count 1 at offset 0, otherwise 0"
unfoldable pub fresh : ℕ → ℕ → Timestamp
fresh epsilon clock = record { r = clock; c = 0; kn = set (replicate (width epsilon) 0) epsilon 1 }

-- 01, tick 1: "Unsound tables are replaced by c 0 and no counts at all"
unfoldable pub replaced : ℕ → ℕ → Timestamp
replaced epsilon v = record { r = v; c = 0; kn = replicate (width epsilon) 0 }

-- counts placed k offsets further down
unfoldable pub shift : ℕ → List ℕ → List ℕ
shift k kn = drop k kn ++ replicate k 0

-- 01, tick 2: "In sound tables c drops by one, not below 0, and counts move one offset down". 02, 2.2: "c drops by the step and counts
-- move down by it". They are placed relative to v from here on
unfoldable pub step : ℕ → ℕ → Timestamp → Timestamp
step k v t = record { r = v; c = t.c - k; kn = shift k t.kn }

-- 01, tick 3: "c and each count become the larger of own and frame's, both placed relative to v", which reads B. For the counts all clocks are
-- taken ε further, so that none is negative
unfoldable pub absorb : ℕ → ℕ → Timestamp → ℕ → Timestamp → Timestamp
absorb epsilon modulus t reading f =
    record {
      r = t.r;
      c = max t.c (sum reading f.c - modulus);
      kn = tab (width epsilon) (λ i. max (count_at epsilon (modulus + epsilon) t.kn (modulus + i)) (count_at epsilon (reading + epsilon) f.kn (modulus + i)));
    }

-- 01, tick 4: "The count at offset 0 rises by one; r is v"
unfoldable pub count_own : ℕ → ℕ → Timestamp → Timestamp
count_own epsilon v t = record { r = v; c = t.c; kn = set t.kn epsilon (get_or t.kn epsilon 0 + 1) }
