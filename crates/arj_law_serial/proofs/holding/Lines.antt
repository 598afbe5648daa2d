-- What lines make of a journal's tables, of when nodes started, and of the actions that were begun.
use Rattle.arj_law_parts.proofs.Words
use Words.{◌≡◌, ◌≤◌, ◌∙◌, ◌==◌, ◌++◌, ◌&&◌, ℕ, zero, suc, List, [], ◌∷◌, Bool, true, false, cond, length, refl, sym, ap, subst, arith}
use Words.{eqb-true, eq-eqb, ⊤, list_all, and_parts, Row, Body, Part, Line, Uid, rows_by, numbered}
use Rattle.arj_law_serial.proofs.Terms
use Terms.{Act, acts, acts_after, acts_from, table, table_from, table_step, up_step, acts_more, AreQuiet, is_quiet_line, IsOfPart}
use Terms.{holders_in, rows_on, up_from, up_of}
use Terms.body
use Rattle.arj_law_serial.proofs.holding.Sorts.{IsPlain, by_kind, is_of}
use Rattle.arj_law_serial.proofs.tables.{Effects.goes_on, Rows.lines_go_by_objects}

pub never : {P : Type 0} (b : Bool) → b ≡ true → b ≡ false → P
never b holds fails = let no_way : true ≡ false = sym holds ∙ fails in cc

pub itself : (n : ℕ) → (n == n) ≡ true
itself n = eq-eqb n n refl

pub next_off : (n : ℕ) → (n == suc n) ≡ false
next_off n = by (n == suc n) refl
  where
    by : (b : Bool) → (n == suc n) ≡ b → b ≡ false
    by true is = let same = eqb-true n (suc n) is in absurd (omega (arith, same))
    by false is = refl

-- ---- one line

-- a number isn't another one's
pub apart : (m n k : ℕ) → (m == k) ≡ true → (n == k) ≡ false → (m == n) ≡ false
apart m n k is off = by (m == n) refl
  where
    by : (b : Bool) → (m == n) ≡ b → b ≡ false
    by true e = never (n == k) (ap (λ j. j == k) (sym (eqb-true m n e)) ∙ is) off
    by false e = refl

-- a line of node k changes nothing in the table of node n
other_table : (n k : ℕ) → (n == k) ≡ false → (b : Body) → is_of k b ≡ true → (begun : List Act) (up event : ℕ) (rows : List Row) →
    table_step n begun up event b rows ≡ rows
other_table n k off =
    by_kind (λ b. is_of k b ≡ true → (begun : List Act) (up event : ℕ) (rows : List Row) → table_step n begun up event b rows ≡ rows)
    (λ b plain is begun up event rows. plain.table n begun up event rows)
    (λ l h u p is begun up event rows. refl)
    (λ m u o how is begun up event rows. skips m is _ rows)
    (λ m u o is begun up event rows. skips m is _ rows)
    (λ m x c is begun up event rows. skips m is _ rows)
    (λ m u e q is begun up event rows. skips m is _ rows)
    (λ m is begun up event rows. skips m is [] rows)
    (λ m i is begun up event rows. skips m is [] rows)
  where
    skips : (m : ℕ) → (m == k) ≡ true → (xs rows : List Row) → cond (m == n) xs rows ≡ rows
    skips m is xs rows = λ i. cond (apart m n k is off i) xs rows

-- nor when it started
other_start : (n k : ℕ) → (n == k) ≡ false → (b : Body) → is_of k b ≡ true → (event up : ℕ) → up_step n event b up ≡ up
other_start n k off = by_kind (λ b. is_of k b ≡ true → (event up : ℕ) → up_step n event b up ≡ up)
    (λ b plain is event up. plain.starts n event up)
    (λ l h u p is event up. refl)
    (λ m u o how is event up. refl)
    (λ m u o is event up. refl)
    (λ m x c is event up. refl)
    (λ m u e q is event up. refl)
    (λ m is event up. refl)
    (λ m i is event up. λ j. cond (apart m n k is off j) event up)

-- what a node's start is by a line, where it isn't this event's
pub start_before : (k event up : ℕ) (b : Body) → (event == up_step k event b up) ≡ false → (event == up) ≡ false
start_before k event up b = by_kind (λ b. (event == up_step k event b up) ≡ false → (event == up) ≡ false)
    (λ b plain off. (λ i. event == sym (plain.starts k event up) i) ∙ off)
    (λ l h u p off. off)
    (λ m u o how off. off)
    (λ m u o off. off)
    (λ m x c off. off)
    (λ m u e q off. off)
    (λ m off. off)
    (λ m i off. by (m == k) off) b
  where
    by : (b : Bool) → (event == cond b event up) ≡ false → (event == up) ≡ false
    by true off = never (event == event) (itself event) off
    by false off = off

-- the start is this event's by each of its lines
pub start_stays : (n event : ℕ) (b : Body) → up_step n event b event ≡ event
start_stays n event = by_kind (λ b. up_step n event b event ≡ event)
    (λ b plain. plain.starts n event event)
    (λ l h u p. refl)
    (λ m u o how. refl)
    (λ m u o. refl)
    (λ m x c. refl)
    (λ m u e q. refl)
    (λ m. refl)
    (λ m i. by (m == n))
  where
    by : (b : Bool) → cond b event event ≡ event
    by true = refl
    by false = refl

-- and no later one
pub start_most : (n event up : ℕ) (b : Body) → up ≤ event → up_step n event b up ≤ event
start_most n event up b le = by_kind (λ b. up_step n event b up ≤ event)
    (λ b plain. subst (λ u. u ≤ event) (sym (plain.starts n event up)) le)
    (λ l h u p. le)
    (λ m u o how. le)
    (λ m u o. le)
    (λ m x c. le)
    (λ m u e q. le)
    (λ m. le)
    (λ m i. by (m == n)) b
  where
    by : (b : Bool) → cond b event up ≤ event
    by true = omega arith
    by false = le

-- ---- lines of an event

-- a node's start goes on from what it was
pub ups_on : (n up : ℕ) (ls ms : List Line) → up_from n up (ls ++ ms) ≡ up_from n (up_from n up ls) ms
ups_on n up [] ms = refl
ups_on n up (l ∷ ls) ms = ups_on n (up_step n l.event l.body up) ls ms

pub table_more : (n : ℕ) (ls ms : List Line) → table n (ls ++ ms) ≡ table_from n (acts ls) (up_of n ls) (table n ls) ms
table_more n ls ms = goes_on n [] 0 [] ls ms

pub acts_on : (ls ms : List Line) → acts (ls ++ ms) ≡ acts_from (acts ls) ms
acts_on ls ms = acts_more [] ls ms

-- lines of node k in the table of another one
pub other_tables : (n k e : ℕ) → (n == k) ≡ false → (bs : List Body) → list_all (is_of k) bs ≡ true → (ls : List Line) →
    table n (ls ++ numbered e bs) ≡ table n ls
other_tables n k e off bs all ls = table_more n ls (numbered e bs) ∙ go bs all (acts ls) (up_of n ls) (table n ls)
  where
    go : (bs : List Body) → list_all (is_of k) bs ≡ true → (begun : List Act) (up : ℕ) (rows : List Row) →
        table_from n begun up rows (numbered e bs) ≡ rows
    go [] all begun up rows = refl
    go (b ∷ bs) all begun up rows =
        let p = and_parts (is_of k b) (list_all (is_of k) bs) all in
        go bs p.1 (acts_after begun b) (up_step n e b up) (table_step n begun up e b rows) ∙ other_table n k off b p.0 begun up e rows

pub other_starts : (n k e : ℕ) → (n == k) ≡ false → (bs : List Body) → list_all (is_of k) bs ≡ true → (ls : List Line) →
    up_of n (ls ++ numbered e bs) ≡ up_of n ls
other_starts n k e off bs all ls = ups_on n 0 ls (numbered e bs) ∙ go bs all (up_of n ls)
  where
    go : (bs : List Body) → list_all (is_of k) bs ≡ true → (up : ℕ) → up_from n up (numbered e bs) ≡ up
    go [] all up = refl
    go (b ∷ bs) all up =
        let p = and_parts (is_of k b) (list_all (is_of k) bs) all in
        go bs p.1 (up_step n e b up) ∙ other_start n k off b p.0 e up

-- lines at which no view looks are plain
quiet_plain : (b : Body) → is_quiet_line b ≡ true → IsPlain b
quiet_plain = by_kind (λ b. is_quiet_line b ≡ true → IsPlain b)
    (λ b plain is. plain)
    (λ l h u p is. absurd (cc is))
    (λ m u o how is. absurd (cc is))
    (λ m u o is. absurd (cc is))
    (λ m x c is. absurd (cc is))
    (λ m u e q is. absurd (cc is))
    (λ m is. absurd (cc is))
    (λ m i is. absurd (cc is))

pub quiet_of : (k : ℕ) (bs : List Body) → AreQuiet bs → list_all (is_of k) bs ≡ true
quiet_of k [] quiet = refl
quiet_of k (b ∷ bs) quiet =
    let p = and_parts (is_quiet_line b) (list_all is_quiet_line bs) quiet in
    let q = quiet_plain b p.0 in
    λ i. q.of k i && quiet_of k bs p.1 i

pub quiet_table : (n e : ℕ) (bs : List Body) → AreQuiet bs → (ls : List Line) → table n (ls ++ numbered e bs) ≡ table n ls
quiet_table n e bs quiet ls = other_tables n (suc n) e (next_off n) bs (quiet_of (suc n) bs quiet) ls

pub quiet_starts : (n e : ℕ) (bs : List Body) → AreQuiet bs → (ls : List Line) → up_of n (ls ++ numbered e bs) ≡ up_of n ls
quiet_starts n e bs quiet ls = other_starts n (suc n) e (next_off n) bs (quiet_of (suc n) bs quiet) ls

pub quiet_acts : (e : ℕ) (bs : List Body) → AreQuiet bs → (ls : List Line) → acts (ls ++ numbered e bs) ≡ acts ls
quiet_acts e bs quiet ls = acts_on ls (numbered e bs) ∙ go bs quiet (acts ls)
  where
    go : (bs : List Body) → AreQuiet bs → (begun : List Act) → acts_from begun (numbered e bs) ≡ begun
    go [] quiet begun = refl
    go (b ∷ bs) quiet begun =
        let p = and_parts (is_quiet_line b) (list_all is_quiet_line bs) quiet in
        let q = quiet_plain b p.0 in
        go bs p.1 (acts_after begun b) ∙ q.acts begun

-- one line, in a node's own table
pub own_line : (n : ℕ) (p : Part) (o : Uid) → IsOfPart p o → (e : ℕ) (b : Body) (ls : List Line) →
    rows_on o (table n (ls ++ numbered e (b ∷ []))) ≡ rows_by (holders_in (e == up_of n ls) (acts ls)) n p o b (rows_on o (table n ls))
own_line n p o of e b ls =
    ap (rows_on o) (table_more n ls (numbered e (b ∷ []))) ∙ lines_go_by_objects n p o of (acts ls) (up_of n ls) e b (table n ls)

-- a node that halts has no rows
pub halted_table : (n e : ℕ) (ls : List Line) → table n (ls ++ numbered e (body.Halted n ∷ [])) ≡ []
halted_table n e ls = table_more n ls (numbered e (body.Halted n ∷ [])) ∙ (λ i. cond (itself n i) [] (table n ls))

-- ---- numbers of lines

-- behind the first k lines all are of this event
abbrev pub Since : ℕ → ℕ → List Line → Type 0
Since event k [] = ⊤
Since event zero (l ∷ ls) = (l.event ≡ event) × Since event zero ls
Since event (suc k) (l ∷ ls) = Since event k ls

pub since_less : (event k : ℕ) (ls ms : List Line) → Since event k (ls ++ ms) → Since event k ls
since_less event k [] ms s = tt
since_less event zero (l ∷ ls) ms s = (s.0, since_less event zero ls ms s.1)
since_less event (suc k) (l ∷ ls) ms s = since_less event k ls ms s

pub since_last : (event k e : ℕ) (b : Body) (ls : List Line) → k ≤ length ls → Since event k (ls ++ numbered e (b ∷ [])) → e ≡ event
since_last event zero e b [] le s = s.0
since_last event zero e b (l ∷ ls) le s = since_last event zero e b ls (omega arith) s.1
since_last event (suc k) e b [] le s = absurd (omega (arith, le))
since_last event (suc k) e b (l ∷ ls) le s = since_last event k e b ls (omega (arith, le)) s

pub since_all : (event : ℕ) (bs : List Body) (ls : List Line) → Since event (length ls) (ls ++ numbered event bs)
since_all event [] [] = tt
since_all event (b ∷ bs) [] = (refl, since_all event bs [])
since_all event bs (l ∷ ls) = since_all event bs ls
