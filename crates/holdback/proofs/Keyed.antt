-- Keys: their numbers decide as the comparison of the frames does.
-- Assumes nothing.
use Rattle.std.proofs.Common.{◌≡◌, ℕ, ◌+◌, ◌<◌, ◌≤◌, Bool, true, false, cond, eqb, ltb, ◌⊎◌, List, [], ◌∷◌, sym, refl, ap, ◌∙◌, ap₂, inl, inr, zero-le, add-zero, arith, le-ltb, lt-ltb}
use Rattle.laws.specs.Lex.{is_less, lex_compare}
use Rattle.laws.proofs.Numbers.{lt-or-ge, eq-or-ne}
use Rattle.laws.proofs.Lex.{lex-head-lt, lex-head-gt, lex-head-eq}
use Rattle.model.specs.Setup.{Setup}
use Rattle.timestamp.specs.declared.ordering.Rank.{Rank}
use Rattle.frame.specs.Newest.{newest_from}
use Rattle.holdback.specs.declared.keys.Key.{Key}
use Rattle.holdback.specs.Seen.{Within, rank_slot}
use Rattle.lemmas.proofs.Bounds.{Limits}
use Rattle.holdback.specs.Queue.{rank_before}
use Rattle.holdback.proofs.RoundTrip.{Bytes}
use Rattle.holdback.proofs.Newest.{sums-say, newest-say, older-say, alike-say}
use Rattle.holdback.specs.Keys.{key_at, numbers_of, key_less}

-- ---- the tests of the code

one-or-none : (t : Bool) → cond t 1 0 ≤ 1
one-or-none true = omega arith
one-or-none false = zero-le

one-says : (t : Bool) → eqb (cond t 1 0) 1 ≡ t
one-says true = refl
one-says false = refl

pub decided-yes : (x y : ℕ) → x < y → ◌≡◌ {A = ℕ} 1 (cond (ltb x y) 1 0)
decided-yes x y h = rw (lt-ltb x y h)

pub decided-no : (x y : ℕ) → y ≤ x → ◌≡◌ {A = ℕ} 0 (cond (ltb x y) 1 0)
decided-no x y h = rw (le-ltb x y h)

-- a number before two lists, of which one is decided already
less-before : (x y : ℕ) (a b : List ℕ) (t : Bool) → is_less (lex_compare a b) ≡ t → ltb x (y + cond t 1 0) ≡ is_less (lex_compare (x ∷ a) (y ∷ b))
less-before x y a b t e =
    elim (lt-or-ge x y) [
      | inl h ↦ let l : x < y + cond t 1 0 = omega arith in lt-ltb x (y + cond t 1 0) l ∙ sym (ap is_less (lex-head-lt x y a b h))
      | inr h ↦
          elim (eq-or-ne x y) [
            | inl same ↦ tied t e same
            | inr n ↦
                let l : y + cond t 1 0 ≤ x = omega (arith, one-or-none t) in
                le-ltb x (y + cond t 1 0) l ∙ sym (ap is_less (lex-head-gt x y a b (omega arith)))
          ]
    ]
  where
    tied : (t : Bool) → is_less (lex_compare a b) ≡ t → x ≡ y → ltb x (y + cond t 1 0) ≡ is_less (lex_compare (x ∷ a) (y ∷ b))
    tied true e same = let l : x < y + 1 = omega arith in lt-ltb x (y + 1) l ∙ sym (ap is_less (lex-head-eq x y a b same) ∙ e)
    tied false e same = let l : y + 0 ≤ x = omega arith in le-ltb x (y + 0) l ∙ sym (ap is_less (lex-head-eq x y a b same) ∙ e)

none-less : is_less (lex_compare [] []) ≡ false
unfolding lex_compare
none-less = refl

-- the same as numbers
pub tie-decides : (x y : ℕ) (a b : List ℕ) {t r : ℕ} → t ≡ cond (is_less (lex_compare a b)) 1 0 → r ≡ cond (ltb x (y + t)) 1 0
    → r ≡ cond (is_less (lex_compare (x ∷ a) (y ∷ b))) 1 0
tie-decides x y a b {t} e h =
    h ∙ (ap (λ (n : ℕ). cond (ltb x (y + n)) 1 0) e ∙ ap (λ (c : Bool). cond c 1 0) (less-before x y a b (is_less (lex_compare a b)) refl))

pub none-tied : ◌≡◌ {A = ℕ} 0 (cond (is_less (lex_compare [] [])) 1 0)
unfolding lex_compare
none-tied = refl

pub all-decided : (f g : Key) {r : ℕ} → r ≡ cond (is_less (lex_compare (numbers_of f) (numbers_of g))) 1 0 → eqb r 1 ≡ key_less f g
unfolding key_less
all-decided f g e = ap (λ (n : ℕ). eqb n 1) e ∙ one-says (is_less (lex_compare (numbers_of f) (numbers_of g)))

-- a key put together
pub key-made : (s : Setup) (rank : Rank) (kn : List ℕ) {newest older slot : ℕ} → newest ≡ newest_from s.epsilon rank.c 0 kn → older ≡ newest_from s.epsilon rank.c 8 kn → slot ≡ rank_slot s rank
    → ◌≡◌ {A = Key} (record { sum = rank.reading + rank.c; newest = newest; older = older; slot = slot }) (key_at s rank kn)
key-made s rank kn {newest} {older} {slot} en eo es =
    ap₂ (λ (m n : ℕ). record { sum = rank.reading + rank.c; newest = m; older = n; slot = slot }) en eo
    ∙ ap (λ (m : ℕ). record { sum = rank.reading + rank.c; newest = newest_from s.epsilon rank.c 0 kn; older = newest_from s.epsilon rank.c 8 kn; slot = m }) es

-- ---- the order of two frames by their keys

-- the first number decides, unless it is the same
first_says : (x y : ℕ) (a b : List ℕ) → (x ≡ y → ⊥) → is_less (lex_compare (x ∷ a) (y ∷ b)) ≡ ltb x y
first_says x y a b n =
    elim (lt-or-ge x y) [
      | inl h ↦ ap is_less (lex-head-lt x y a b h) ∙ sym (lt-ltb x y h)
      | inr h ↦ ap is_less (lex-head-gt x y a b (omega arith)) ∙ sym (le-ltb x y h)
    ]

next-says : (x y : ℕ) (a b : List ℕ) → x ≡ y → is_less (lex_compare (x ∷ a) (y ∷ b)) ≡ is_less (lex_compare a b)
next-says x y a b e = ap is_less (lex-head-eq x y a b e)

-- the place of station and reading decides as they do
slots-say : (s : Setup) (f g : Rank) → Limits s → Within s f → Within s g
    → ltb (rank_slot s f) (rank_slot s g) ≡ is_less (lex_compare (f.station ∷ f.reading ∷ []) (g.station ∷ g.reading ∷ []))
unfolding lex_compare
slots-say s f g limits p q =
    elim (eq-or-ne f.station g.station) [
      | inl same ↦
          elim (eq-or-ne f.reading g.reading) [
            | inl alike ↦
                le-ltb (rank_slot s f) (rank_slot s g) (omega arith)
                ∙ sym (next-says f.station g.station (f.reading ∷ []) (g.reading ∷ []) same ∙ next-says f.reading g.reading [] [] alike)
            | inr n ↦ readings same n (lt-or-ge f.reading g.reading)
          ]
      | inr n ↦ stations n (lt-or-ge f.station g.station)
    ]
  where
    readings : f.station ≡ g.station → (f.reading ≡ g.reading → ⊥) → (f.reading < g.reading) ⊎ (g.reading ≤ f.reading)
        → ltb (rank_slot s f) (rank_slot s g) ≡ is_less (lex_compare (f.station ∷ f.reading ∷ []) (g.station ∷ g.reading ∷ []))
    readings same n (inl h) =
        lt-ltb (rank_slot s f) (rank_slot s g) (omega arith)
        ∙ sym (next-says f.station g.station (f.reading ∷ []) (g.reading ∷ []) same ∙ (first_says f.reading g.reading [] [] n ∙ lt-ltb f.reading g.reading h))
    readings same n (inr h) =
        le-ltb (rank_slot s f) (rank_slot s g) (omega arith)
        ∙ sym (next-says f.station g.station (f.reading ∷ []) (g.reading ∷ []) same ∙ (first_says f.reading g.reading [] [] n ∙ le-ltb f.reading g.reading h))

    stations : (f.station ≡ g.station → ⊥) → (f.station < g.station) ⊎ (g.station ≤ f.station)
        → ltb (rank_slot s f) (rank_slot s g) ≡ is_less (lex_compare (f.station ∷ f.reading ∷ []) (g.station ∷ g.reading ∷ []))
    stations n (inl h) =
        lt-ltb (rank_slot s f) (rank_slot s g) (omega arith)
        ∙ sym (first_says f.station g.station (f.reading ∷ []) (g.reading ∷ []) n ∙ lt-ltb f.station g.station h)
    stations n (inr h) =
        le-ltb (rank_slot s f) (rank_slot s g) (omega (arith, n))
        ∙ sym (first_says f.station g.station (f.reading ∷ []) (g.reading ∷ []) n ∙ le-ltb f.station g.station h)

module _ (s : Setup) (f : Rank) (kf : List ℕ) (g : Rank) (kg : List ℕ) (limits : Limits s) (p : Bytes kf) (q : Bytes kg) (wf : Within s f) (wg : Within s g) where
  abbrev epsilon : ℕ
  epsilon = s.epsilon

  abbrev newest-f : ℕ
  newest-f = newest_from epsilon f.c 0 kf

  abbrev newest-g : ℕ
  newest-g = newest_from epsilon g.c 0 kg

  abbrev older-f : ℕ
  older-f = newest_from epsilon f.c 8 kf

  abbrev older-g : ℕ
  older-g = newest_from epsilon g.c 8 kg

  -- the numbers of two keys decide as the ranks and counts do
  pub keys-say : key_less (key_at s f kf) (key_at s g kg) ≡ rank_before epsilon f kf g kg
  unfolding key_less
  keys-say =
      elim (eq-or-ne (f.reading + f.c) (g.reading + g.c)) [
        | inr n ↦
            first_says (f.reading + f.c) (g.reading + g.c) (newest-f ∷ older-f ∷ rank_slot s f ∷ []) (newest-g ∷ older-g ∷ rank_slot s g ∷ []) n
            ∙ sums-say epsilon f kf g kg n
        | inl same ↦
            next-says (f.reading + f.c) (g.reading + g.c) (newest-f ∷ older-f ∷ rank_slot s f ∷ []) (newest-g ∷ older-g ∷ rank_slot s g ∷ []) same
            ∙ counts same
      ]
    where
      slots : f.reading + f.c ≡ g.reading + g.c → newest-f ≡ newest-g → older-f ≡ older-g → is_less (lex_compare (rank_slot s f ∷ []) (rank_slot s g ∷ [])) ≡ rank_before epsilon f kf g kg
      slots same en eo =
          sym (less-before (rank_slot s f) (rank_slot s g) [] [] false none-less)
          ∙ (ap (ltb (rank_slot s f)) (add-zero (rank_slot s g)) ∙ (slots-say s f g limits wf wg ∙ alike-say epsilon f kf g kg p q same limits.epsilon-most en eo))

      olds : f.reading + f.c ≡ g.reading + g.c → newest-f ≡ newest-g → is_less (lex_compare (older-f ∷ rank_slot s f ∷ []) (older-g ∷ rank_slot s g ∷ [])) ≡ rank_before epsilon f kf g kg
      olds same en =
          elim (eq-or-ne older-f older-g) [
            | inr n ↦ first_says older-f older-g (rank_slot s f ∷ []) (rank_slot s g ∷ []) n ∙ older-say epsilon f kf g kg p q same refl refl older-f older-g en refl refl n
            | inl eo ↦ next-says older-f older-g (rank_slot s f ∷ []) (rank_slot s g ∷ []) eo ∙ slots same en eo
          ]

      counts : f.reading + f.c ≡ g.reading + g.c → is_less (lex_compare (newest-f ∷ older-f ∷ rank_slot s f ∷ []) (newest-g ∷ older-g ∷ rank_slot s g ∷ [])) ≡ rank_before epsilon f kf g kg
      counts same =
          elim (eq-or-ne newest-f newest-g) [
            | inr n ↦ first_says newest-f newest-g (older-f ∷ rank_slot s f ∷ []) (older-g ∷ rank_slot s g ∷ []) n ∙ newest-say epsilon f kf g kg p q same refl refl n
            | inl en ↦ next-says newest-f newest-g (older-f ∷ rank_slot s f ∷ []) (older-g ∷ rank_slot s g ∷ []) en ∙ olds same en
          ]
