-- Of tables of 32-bit words, the words written are 32-bit words: a refusal 15 is as exact over lists of such words.
use Rattle.std.specs.Prelude.{◌≡◌, List, [], ◌∷◌, ◌++◌, map, Bool, true, false, ℕ, zero, suc, ◌+◌, ◌≤◌, eqb, ℤ, pos, negsuc, length, get_or, take, drop}
use Rattle.std.proofs.Common.{arith, length-take, length-drop, SFits}
use Rattle.std.proofs.lemmas.List.{length-map}
use Rattle.std.specs.Int.{w32}
use Rattle.format.specs.Reading.{Table, States, Edges, Ranges, Sets, Rules, Modes, Decisions, Actions, Scratch, pick}
use Rattle.format.specs.Sets.{Range}
use Rattle.format.specs.Sections.{follows, size}
use Rattle.format.specs.Links.{those, numbers_from, numbers, each}
use Rattle.format.specs.Tables.{width, range_words, state_word, action_words}
use Rattle.format.specs.Places.{st_kind, st_rule, st_end, st_back, ed_kind, ed_source, ed_target, ed_p, ed_q, ed_r, ra_start, ra_stop, se_count, ru_start, ru_token, na_state, ac_kind, ac_d1, ac_d2}
use Rattle.format.specs.Writing.{counted, link, state_form, rule_form, set_form, edge_form, words_of, cell, cell_size, flag1, flag2, own, state_back, edge_back, range_back, rule_back, action_back, state_named, cuts, recovered, Comes}
use Rattle.laws.specs.Rows.{Wide}
use Rattle.laws.specs.Gives.{Every}
use Rattle.laws.specs.Lists.{every_append}
use Rattle.laws.specs.Fits.{Roomed}
use Rattle.rewriting.specs.Found.{most, found_exactly, written-comes}
use Rattle.rewriting.specs.Checks.{checks_exactly}

abbrev pub W : ℤ → Type 0
W v = SFits w32 v

few_fits : (n : ℕ) → n ≤ 65536 → W (pos n)
few_fits n h = record { sfits = omega arith }

size_fits : (v : ℤ) → W v → W (pos (size v))
size_fits (pos n) h = h
size_fits (negsuc n) h = few_fits 0 (omega arith)

cell-fits : (x : List ℤ) (i : ℕ) → Every W x → W (cell x i)
cell-fits [] i h = few_fits 0 (omega arith)
cell-fits (v ∷ x) zero h = h.0
cell-fits (v ∷ x) (suc i) h = cell-fits x i h.1

take-fits : {A : Type 0} (P : A → Type 0) (k : ℕ) (l : List A) → Every P l → Every P (take k l)
take-fits P zero l h = tt
take-fits P (suc k) [] h = tt
take-fits P (suc k) (a ∷ l) h = (h.0, take-fits P k l h.1)

drop-fits : {A : Type 0} (P : A → Type 0) (k : ℕ) (l : List A) → Every P l → Every P (drop k l)
drop-fits P zero l h = h
drop-fits P (suc k) [] h = tt
drop-fits P (suc k) (a ∷ l) h = drop-fits P k l h.1

-- lists whose members' words fit
module _ {A : Type 0} (f : A → List ℤ) where
  each_fits : (l : List A) → Every (λ a. Every W (f a)) l → Every W (each f l)
  each_fits [] h = tt
  each_fits (a ∷ l) h = every_append W (f a) (each f l) h.0 (each_fits l h.1)

  counted-fits : (l : List A) → length l ≤ 65536 → Every (λ a. Every W (f a)) l → Every W (counted f l)
  counted-fits l n h = (few_fits (length l) n, each_fits l h)

  map-fits : (g : List ℤ → A) → ((x : List ℤ) → Every W x → Every W (f (g x))) → (X : List (List ℤ)) → Every (Every W) X → Every (λ a. Every W (f a)) (map g X)
  map-fits g k [] h = tt
  map-fits g k (x ∷ X) h = (k x h.0, map-fits g k X h.1)

those-fits : {A : Type 0} (P : A → Type 0) (p : A → Bool) (l : List A) → Every P l → Every P (those p l)
those-fits P p [] h = tt
those-fits P p (a ∷ l) h = go (p a) (those-fits P p l h.1)
  where
    go : (b : Bool) → Every P (those p l) → Every P (pick b (a ∷ those p l) (those p l))
    go true q = (h.0, q)
    go false q = q

numbers_fit : {A : Type 0} (q : A → Bool) (i : ℕ) (l : List A) → i + length l ≤ 65536 → Every (λ s. Every W (state_word s)) (numbers_from i q l)
numbers_fit q i [] h = tt
numbers_fit q i (a ∷ l) h = go (q a) (numbers_fit q (i + 1) l (omega arith))
  where
    go : (b : Bool) → Every (λ s. Every W (state_word s)) (numbers_from (i + 1) q l) → Every (λ s. Every W (state_word s)) (pick b (i ∷ numbers_from (i + 1) q l) (numbers_from (i + 1) q l))
    go true r = ((few_fits i (omega arith), tt), r)
    go false r = r

numbers_short : {A : Type 0} (q : A → Bool) (i : ℕ) (l : List A) → length (numbers_from i q l) ≤ length l
numbers_short q i [] = omega arith
numbers_short q i (a ∷ l) = go (q a) (numbers_short q (i + 1) l)
  where
    go : (b : Bool) → length (numbers_from (i + 1) q l) ≤ length l → length (pick b (i ∷ numbers_from (i + 1) q l) (numbers_from (i + 1) q l)) ≤ suc (length l)
    go true r = omega arith
    go false r = omega arith

pick-fits : (b : Bool) (v w : ℤ) → W v → W w → W (pick b v w)
pick-fits true v w h k = h
pick-fits false v w h k = k

state-fits : (x : List ℤ) → Every W x → Every W (state_form (state_back x))
state-fits x h =
    (size_fits (cell x st_kind) (cell-fits x st_kind h), take-fits W (get_or follows (cell_size x st_kind) 0) (cell x st_rule ∷ link (state_back x) ∷ []) (cell-fits x st_rule h, (pick-fits (eqb (cell_size x st_kind) 12) (cell x st_back) (cell x st_end) (cell-fits x st_back h) (cell-fits x st_end h), tt)))

edge-fits : (x : List ℤ) → Every W x → Every W (edge_form (edge_back x))
edge-fits x h = go (eqb (cell_size x ed_kind) 3)
  where
    s0 : W (pos (cell_size x ed_kind))
    s0 = size_fits (cell x ed_kind) (cell-fits x ed_kind h)

    s1 : W (pos (cell_size x ed_source))
    s1 = size_fits (cell x ed_source) (cell-fits x ed_source h)

    s2 : W (pos (cell_size x ed_target))
    s2 = size_fits (cell x ed_target) (cell-fits x ed_target h)

    go : (b : Bool) → Every W (pick b (pos (cell_size x ed_source) ∷ cell x ed_q ∷ pos (cell_size x ed_kind) ∷ pos (cell_size x ed_target) ∷ cell x ed_p ∷ cell x ed_r ∷ []) (pos (cell_size x ed_source) ∷ pos (cell_size x ed_target) ∷ pos (cell_size x ed_kind) ∷ cell x ed_p ∷ cell x ed_q ∷ cell x ed_r ∷ []))
    go true = (s1, (cell-fits x ed_q h, (s0, (s2, (cell-fits x ed_p h, (cell-fits x ed_r h, tt))))))
    go false = (s1, (s2, (s0, (cell-fits x ed_p h, (cell-fits x ed_q h, (cell-fits x ed_r h, tt))))))

sets_fit : (R : List Range) (ns : List ℕ) → length R ≤ 65536 → Every (λ a. Every W (range_words a)) R → Every (λ l. Every W (set_form l)) (cuts R ns)
sets_fit R [] h k = tt
sets_fit R (n ∷ ns) h k = (
  (few_fits (length (take n R)) (omega (arith, length-take n R)), (few_fits 0 (omega arith), each_fits range_words (take n R) (take-fits (λ a. Every W (range_words a)) n R k))),
  sets_fit (drop n R) ns (omega (arith, length-drop n R)) (drop-fits (λ a. Every W (range_words a)) n R k),
)

-- a list of such words
record Fit (l : List ℤ) : Type 0 where
  all : Every W l

join : {l m : List ℤ} → Fit l → Fit m → Fit (l ++ m)
join {l} {m} a b = record { all = every_append W l m a.all b.all }

part : {A : Type 0} (f : A → List ℤ) (l : List A) → length l ≤ 65536 → Every (λ a. Every W (f a)) l → Fit (counted f l)
part f l n h = record { all = counted-fits f l n h }

pub words_fit : (T : Table → List (List ℤ)) (token : ℤ) → ((t : Table) → Every (Every W) (T t)) → W token → ((t : Table) → length (T t) ≤ 65536) → Roomed most (recovered T token) → Every W (words_of (recovered T token))
unfolding words_of recovered
words_fit T token h k few m =
    (few_fits 4 (omega arith), (few_fits 0 (omega arith), (k, rest.all)))
  where
    one : (x : List ℤ) → Every W x → Every W (state_word (state_named x))
    one x w = (size_fits (cell x na_state) (cell-fits x na_state w), tt)

    rest : Fit (counted state_form (map state_back (T States)) ++ (counted state_word (numbers flag1 (T States)) ++ (counted state_word (numbers flag2 (T States)) ++ (counted rule_form (map rule_back (T Rules))
        ++ (counted state_word (map state_named (T Modes)) ++ (counted set_form (cuts (map range_back (T Ranges)) (map (λ x. cell_size x se_count) (T Sets))) ++ (counted edge_form (map edge_back (those own (T Edges)))
        ++ (counted state_word (map state_named (T Decisions)) ++ counted action_words (map action_back (T Actions))))))))))
    rest =
        join (part state_form (map state_back (T States)) m.states (map-fits state_form state_back state-fits (T States) (h States)))
        (join (part state_word (numbers flag1 (T States)) (omega (arith, numbers_short flag1 0 (T States), few States)) (numbers_fit flag1 0 (T States) (omega (arith, few States))))
        (join (part state_word (numbers flag2 (T States)) (omega (arith, numbers_short flag2 0 (T States), few States)) (numbers_fit flag2 0 (T States) (omega (arith, few States))))
        (join (part rule_form (map rule_back (T Rules)) m.rules (map-fits rule_form rule_back (λ x w. (size_fits (cell x ru_start) (cell-fits x ru_start w), (cell-fits x ru_token w, tt))) (T Rules) (h Rules)))
        (join (part state_word (map state_named (T Modes)) m.modes (map-fits state_word state_named one (T Modes) (h Modes)))
        (join (part set_form (cuts (map range_back (T Ranges)) (map (λ x. cell_size x se_count) (T Sets))) m.sets (sets_fit (map range_back (T Ranges)) (map (λ x. cell_size x se_count) (T Sets)) (omega (arith, length-map (T Ranges) range_back, few Ranges)) (map-fits range_words range_back (λ x w. (cell-fits x ra_start w, (cell-fits x ra_stop w, tt))) (T Ranges) (h Ranges))))
        (join (part edge_form (map edge_back (those own (T Edges))) (omega (arith, m.edges)) (map-fits edge_form edge_back edge-fits (those own (T Edges)) (those-fits (Every W) own (T Edges) (h Edges))))
        (join (part state_word (map state_named (T Decisions)) m.decisions (map-fits state_word state_named one (T Decisions) (h Decisions)))
        (part action_words (map action_back (T Actions)) m.actions (map-fits action_words action_back (λ x w. (size_fits (cell x ac_kind) (cell-fits x ac_kind w), (cell-fits x ac_d1 w, (cell-fits x ac_d2 w, tt)))) (T Actions) (h Actions))))))))))

-- what is written of 32-bit tables is a list of 32-bit words
pub comes_fit : (T : Table → List (List ℤ)) (token : ℤ) → ((t : Table) → Every (Wide (width t)) (T t)) → T Scratch ≡ [] → ((t : Table) → Every (Every W) (T t)) → W token → Comes T → Every W (words_of (recovered T token))
comes_fit T token wide scratch h k c =
    let f = (found_exactly T token).1 c in
    words_fit T token h k ((checks_exactly T token wide scratch).0 f).1.wired.joined.few f.roomed

-- so 15 is as exact over lists of such words: where any words decode to these records, 32-bit words do
pub comes_short : (T : Table → List (List ℤ)) (token : ℤ) → ((t : Table) → Every (Wide (width t)) (T t)) → T Scratch ≡ [] → ((t : Table) → Every (Every W) (T t)) → W token → Comes T → (c : Comes T) × Every W c.words
comes_short T token wide scratch h k c = (written-comes T token ((found_exactly T token).1 c), comes_fit T token wide scratch h k c)
