-- The calls and tops that count of two journals, one behind the other.
use Rattle.arj_law.proofs.Terms
use Terms.{◌≡◌, ◌<◌, ℕ, suc, ◌+◌, List, [], ◌∷◌, ◌++◌, length, map, Bool, true, false, cond, ◌&&◌, ◌||◌, ◌==◌, Option, Some, None, refl}
use Terms.{◌∙◌, ap, subst, arith, AllByRecursion, filter_map, list_all, list_any, option_map, bytes_eq, eq-eqb, eqb-true}
use Terms.{false_from_ne_true, filter_map-append, list_any-append, Uid, uid_eq, Body, Kind, Line, name, Act, Begun, Placed, act_in, acts}
use Terms.{acts_after, acts_from, begun_of, behind_first, chain_in, committed, committed_of, has_end, is_committed, numbered}
use Terms.{path, put, read, recovered, recovered_of, root_in, top_in, upwards, Call, Said, Top, call_of, committed_calls, committing_of}
use Terms.{committings, ids, kept, kept_in, root_or, said, said_of, top_by, top_of, tops, AreApart, call_behind, calls_behind, top_behind}
use Terms.{tops_behind}
use Terms.body
use Terms.kind
use Rattle.arj_law.proofs.Common.{never, all_both, all_filter_map, all_map}
use Rattle.arj_law.proofs.JoinedActs.{act_behind, calls_carry, chain_over, commits_carry, placed_behind, read_join, records_carry}
use Rattle.arj_law.proofs.JoinedActs.{root_over, said_behind, top_over, tops_carry}
use Rattle.arj_law.proofs.JoinedLists.{all_append, all_over, all_turn, filter_map_over, filter_map_same}
use Rattle.arj_model.specs.Actions.{id_in}
use Rattle.arj_start.specs.Kinds.{is_serial}

-- ---- what holds of actions holds of what is read of them

older_all : (P : Act → Type 0) (us : List Act) (o : Option Begun) → AllByRecursion P (numbered us o) → AllByRecursion P us
older_all P us None h = h
older_all P us (Some b) h = h.1

pub first_all : (P : Act → Type 0) (us : List Act) (ls : List Line) → AllByRecursion P (acts_from us ls) → AllByRecursion P us
first_all P us [] h = h
first_all P us (l ∷ ls) h = older_all P us (begun_of l.body) (first_all P (acts_after us l.body) ls h)

-- and where a place is below the end
pub read_all : {A : Type 0} (P : Act → Type 0) (Q : A → Type 0) (f : List Act → Body → Option A) →
    ((us : List Act) (b : Body) (a : A) → AllByRecursion P us → f us b ≡ Some a → Q a)
    → (us : List Act) (n : ℕ) (ls : List Line) → AllByRecursion P (acts_from us ls) →
    AllByRecursion (λ s. (s.at < n + length ls) × Q s.it) (read f us n ls)
read_all P Q f h us n [] ps = tt
read_all {A} P Q f h us n (l ∷ ls) ps = by (read_all P Q f h (acts_after us l.body) (n + 1) ls ps) (f us l.body) refl
  where
    further : AllByRecursion (λ s. (s.at < (n + 1) + length ls) × Q s.it) (read f (acts_after us l.body) (n + 1) ls) →
        AllByRecursion (λ s. (s.at < n + length (l ∷ ls)) × Q s.it) (read f (acts_after us l.body) (n + 1) ls)
    further qs = all_map (λ (s : Placed A). (s.at < (n + 1) + length ls) × Q s.it) (λ s. (s.at < n + length (l ∷ ls)) × Q s.it)
        (λ s q. (let low = q.0 in omega (arith, low), q.1)) (read f (acts_after us l.body) (n + 1) ls) qs

    by : AllByRecursion (λ s. (s.at < (n + 1) + length ls) × Q s.it) (read f (acts_after us l.body) (n + 1) ls) → (o : Option A) →
        f us l.body ≡ o → AllByRecursion (λ s. (s.at < n + length (l ∷ ls)) × Q s.it) (put n o (read f (acts_after us l.body) (n + 1) ls))
    by ih None e = further ih
    by ih (Some a) e = ((omega arith, h us l.body a (first_all P us (l ∷ ls) ps) e), further ih)

upwards_all : (P : Act → Type 0) (o : Option (List ℕ)) (k : Kind) (f : List ℕ → List Act) → ((p : List ℕ) → AllByRecursion P (f p)) →
    AllByRecursion P (upwards o k f)
upwards_all P None k f h = tt
upwards_all P (Some p) kind.Independent f h = tt
upwards_all P (Some p) k f h = h p

pub path_all : (P : Act → Type 0) (us : List Act) (l : List ℕ) → AllByRecursion P us → AllByRecursion P (path us l)
path_all P [] l ps = tt
path_all P (u ∷ us) l ps = by (λ p. path_all P us p ps.1) (bytes_eq u.label l)
  where
    by : ((p : List ℕ) → AllByRecursion P (path us p)) → (b : Bool) →
        AllByRecursion P (cond b (upwards u.parent u.kind (path us) ++ u ∷ []) (path us l))
    by ih true = all_append P (upwards u.parent u.kind (path us)) (u ∷ []) (upwards_all P u.parent u.kind (path us) ih) (ps.0, tt)
    by ih false = ih l

pub path_of : (P : Act → Type 0) (us : List Act) (b : Body) (p : List Act) → AllByRecursion P us → committing_of us b ≡ Some p →
    AllByRecursion P p
path_of P us (body.Committing l) p ps e = let same : path us (name l) ≡ p = cc e in
    subst (AllByRecursion P) same (path_all P us (name l) ps)
path_of P us b p ps e = absurd (cc e)

pub top_all : (P : Act → Type 0) (p : List Act) (a : Act) → AllByRecursion P p → top_in p ≡ Some a → P a
top_all P [] a ps e = absurd (cc e)
top_all P (b ∷ []) a ps e = by (is_serial b.kind) e
  where
    by : (c : Bool) → cond c None (Some b) ≡ Some a → P a
    by true g = absurd (cc g)
    by false g = let same : b ≡ a = cc g in subst P same ps.0
top_all P (b ∷ d ∷ rest) a ps e = by (is_serial b.kind) e
  where
    by : (c : Bool) → cond c (Some d) (Some b) ≡ Some a → P a
    by true g = let same : d ≡ a = cc g in subst P same ps.1.0
    by false g = let same : b ≡ a = cc g in subst P same ps.0

pub chain_all : (P : Act → Type 0) (p : List Act) → AllByRecursion P p → AllByRecursion P (chain_in p)
chain_all P [] ps = tt
chain_all P (a ∷ rest) ps = by (is_serial a.kind)
  where
    second : (q : List Act) → AllByRecursion P q → AllByRecursion P (behind_first q)
    second [] qs = tt
    second (b ∷ q) qs = qs.1

    by : (c : Bool) → AllByRecursion P (cond c (behind_first rest) rest)
    by true = second rest ps.1
    by false = ps.1

-- the numbers of a journal's actions are below their count
numbers_low : (us : List Act) (ls : List Line) → AllByRecursion (λ a. a.id < length us) us →
    AllByRecursion (λ a. a.id < length (acts_from us ls)) (acts_from us ls)
numbers_low us [] h = h
numbers_low us (l ∷ ls) h = numbers_low (acts_after us l.body) ls (by (begun_of l.body))
  where
    by : (o : Option Begun) → AllByRecursion (λ a. a.id < length (numbered us o)) (numbered us o)
    by None = h
    by (Some b) = (omega arith, all_map (λ a. a.id < length us) (λ a. a.id < suc (length us)) (λ a low. omega (arith, low)) us h)

pub acts_low : (ls : List Line) → AllByRecursion (λ a. a.id < length (acts ls)) (acts ls)
acts_low ls = numbers_low [] ls tt

-- ---- ends

any_none : {A : Type 0} (p : A → Bool) (xs : List A) → AllByRecursion (λ x. p x ≡ false) xs → list_any p xs ≡ false
any_none p [] h = refl
any_none p (x ∷ xs) h = (λ i. h.0 i || any_none p xs h.1 i)

or_right_none : (a b : Bool) → b ≡ false → (a || b) ≡ a
or_right_none true b e = refl
or_right_none false b e = e

or_left_none : (a b : Bool) → a ≡ false → (a || b) ≡ b
or_left_none true b e = never true refl e
or_left_none false b e = refl

pub other_number : (m n : ℕ) → (m ≡ n → ⊥) → (m == n) ≡ false
other_number m n f = false_from_ne_true (m == n) (λ e. absurd (f (eqb-true m n e)))

pub same_behind : (m n k : ℕ) → ((m + k) == (n + k)) ≡ (m == n)
same_behind m n k = by (m == n) refl
  where
    by : (b : Bool) → (m == n) ≡ b → ((m + k) == (n + k)) ≡ b
    by true e = eq-eqb (m + k) (n + k) (ap (λ j. j + k) (eqb-true m n e))
    by false e = other_number (m + k) (n + k) (λ same. never (m == n) (eq-eqb m n (omega (arith, same))) e)

-- the ends of both
abbrev pub ends_join : ℕ → ℕ → List (Placed ℕ) → List (Placed ℕ) → List (Placed ℕ)
ends_join n k E F = E ++ map (placed_behind n (λ i. i + k)) F

pub end_low : (n k : ℕ) (E F : List (Placed ℕ)) (i : ℕ) → i < k → has_end (ends_join n k E F) i ≡ has_end E i
end_low n k E F i low =
    list_any-append (λ e. e.it == i) E (map (placed_behind n (λ j. j + k)) F)
    ∙ or_right_none (has_end E i) (list_any (λ e. e.it == i) (map (placed_behind n (λ j. j + k)) F))
    (any_none (λ e. e.it == i) (map (placed_behind n (λ j. j + k)) F) (all F))
  where
    all : (G : List (Placed ℕ)) → AllByRecursion (λ e. (e.it == i) ≡ false) (map (placed_behind n (λ j. j + k)) G)
    all [] = tt
    all (e ∷ G) = (other_number (e.it + k) i (λ same. omega (arith, same, low)), all G)

pub end_high : (n k : ℕ) (E F : List (Placed ℕ)) (i : ℕ) → AllByRecursion (λ (e : Placed ℕ). e.it < k) E →
    has_end (ends_join n k E F) (i + k) ≡ has_end F i
end_high n k E F i lows =
    list_any-append (λ e. e.it == (i + k)) E (map (placed_behind n (λ j. j + k)) F)
    ∙ or_left_none (has_end E (i + k)) (list_any (λ e. e.it == (i + k)) (map (placed_behind n (λ j. j + k)) F))
    (any_none (λ e. e.it == (i + k)) E (all_map (λ (e : Placed ℕ). e.it < k) (λ e. (e.it == (i + k)) ≡ false)
    (λ e low. other_number e.it (i + k) (λ same. omega (arith, same, low))) E lows))
    ∙ over F
  where
    over : (G : List (Placed ℕ)) → list_any (λ e. e.it == (i + k)) (map (placed_behind n (λ j. j + k)) G) ≡ has_end G i
    over [] = refl
    over (e ∷ G) = (λ j. same_behind e.it i k j || over G j)

-- records
any_over : (n : ℕ) (v : Uid) (R : List (Placed Uid)) →
    list_any (λ u. uid_eq u.it v) (map (placed_behind n (λ u. u)) R) ≡ list_any (λ u. uid_eq u.it v) R
any_over n v [] = refl
any_over n v (u ∷ R) = ap (λ b. uid_eq u.it v || b) (any_over n v R)

module _ (first second : List Line) (apart : AreApart first second) where
  abbrev n : ℕ
  n = length first

  abbrev k : ℕ
  k = length (acts first)

  abbrev E : List (Placed ℕ)
  E = committed first

  abbrev F : List (Placed ℕ)
  F = committed second

  abbrev R : List (Placed Uid)
  R = recovered first

  abbrev S : List (Placed Uid)
  S = recovered second

  abbrev pub records : List (Placed Uid)
  records = R ++ map (placed_behind n (λ u. u)) S

  -- an action of the first journal: its number is below the count, and the second has no record of it
  abbrev pub IsOld : Act → Type 0
  IsOld a = (a.id < k) × AllByRecursion (λ (u : Placed Uid). uid_eq u.it a.uid ≡ false) S

  -- one of the second: the first has no record of it
  abbrev pub IsNew : Act → Type 0
  IsNew a = AllByRecursion (λ (u : Placed Uid). uid_eq u.it a.uid ≡ false) R

  pub old_acts : AllByRecursion IsOld (acts first)
  old_acts = all_both (λ a. a.id < k) (λ a. AllByRecursion (λ (u : Placed Uid). uid_eq u.it a.uid ≡ false) S) (acts first) (acts_low first)
      (all_turn (λ u a. uid_eq u.it a.uid ≡ false) S (acts first) apart.found)

  pub new_acts : AllByRecursion IsNew (acts second)
  new_acts = all_turn (λ u a. uid_eq u.it a.uid ≡ false) R (acts second) apart.past

  pub commits_join : committed (first ++ second) ≡ ends_join n k E F
  commits_join = read_join committed_of (λ i. i + k) first second (commits_carry (acts first)) apart.labels

  pub records_join : recovered (first ++ second) ≡ records
  records_join = read_join recovered_of (λ u. u) first second (records_carry (acts first)) apart.labels

  commit_id : (us : List Act) (b : Body) (i : ℕ) → AllByRecursion (λ (a : Act). a.id < k) us → committed_of us b ≡ Some i → i < k
  commit_id us (body.Committed l) i lows e = by us lows e
    where
      by : (vs : List Act) → AllByRecursion (λ (a : Act). a.id < k) vs → id_in vs (name l) ≡ Some i → i < k
      by [] ps g = absurd (cc g)
      by (v ∷ vs) ps g = at (by vs ps.1) (bytes_eq v.label (name l)) g
        where
          at : (id_in vs (name l) ≡ Some i → i < k) → (c : Bool) →
              option_map (λ (a : Act). a.id) (cond c (Some v) (act_in vs (name l))) ≡ Some i → i < k
          at ih true h = let same : v.id ≡ i = cc h in subst (λ j. j < k) same ps.0
          at ih false h = ih h
  commit_id us b i lows e = absurd (cc e)

  pub commits_low : AllByRecursion (λ (e : Placed ℕ). e.it < k) E
  commits_low = all_map (λ (e : Placed ℕ). (e.at < 0 + n) × (e.it < k)) (λ e. e.it < k) (λ e h. h.1) E
      (read_all (λ a. a.id < k) (λ i. i < k) committed_of commit_id [] 0 first (acts_low first))

  -- whether an action is committed doesn't hang on the other journal
  pub old_committed : (a : Act) → IsOld a → is_committed (ends_join n k E F) records a ≡ is_committed E R a
  old_committed a old = (λ i. end_low n k E F a.id old.0 i
      || (list_any-append (λ u. uid_eq u.it a.uid) R (map (placed_behind n (λ u. u)) S)
      ∙ ap (λ b. list_any (λ u. uid_eq u.it a.uid) R || b) (any_over n a.uid S)
      ∙ or_right_none (list_any (λ u. uid_eq u.it a.uid) R) (list_any (λ u. uid_eq u.it a.uid) S)
      (any_none (λ u. uid_eq u.it a.uid) S old.1)) i)

  pub new_committed : (a : Act) → IsNew a → is_committed (ends_join n k E F) records (act_behind k a) ≡ is_committed F S a
  new_committed a new = (λ i. end_high n k E F a.id commits_low i
      || (list_any-append (λ u. uid_eq u.it a.uid) R (map (placed_behind n (λ u. u)) S)
      ∙ ap (λ b. list_any (λ u. uid_eq u.it a.uid) R || b) (any_over n a.uid S)
      ∙ or_left_none (list_any (λ u. uid_eq u.it a.uid) R) (list_any (λ u. uid_eq u.it a.uid) S)
      (any_none (λ u. uid_eq u.it a.uid) R new)) i)

  -- nor whether all of a chain are
  pub old_chain : (us : List Act) → AllByRecursion IsOld us →
      list_all (λ a. has_end (ends_join n k E F) a.id) us ≡ list_all (λ a. has_end E a.id) us
  old_chain [] ps = refl
  old_chain (a ∷ us) ps = (λ i. end_low n k E F a.id ps.0.0 i && old_chain us ps.1 i)

  pub new_chain : (us : List Act) →
      list_all (λ a. has_end (ends_join n k E F) a.id) (map (act_behind k) us) ≡ list_all (λ a. has_end F a.id) us
  new_chain [] = refl
  new_chain (a ∷ us) = (λ i. end_high n k E F a.id commits_low i && new_chain us i)

  -- ---- calls

  old_kept : (s : Placed Said) → AllByRecursion IsOld s.it.path → kept (ends_join n k E F) records s ≡ kept E R s
  old_kept s olds = by (top_in s.it.path) refl
    where
      by : (o : Option Act) → top_in s.it.path ≡ o → kept_in (ends_join n k E F) records s o ≡ kept_in E R s o
      by None e = refl
      by (Some top) e = (λ i. cond (old_chain (chain_in s.it.path) (chain_all IsOld s.it.path olds) i
          && old_committed top (top_all IsOld s.it.path top olds e) i) (Some (call_of s top)) None)

  ids_over : (us : List Act) → ids (map (act_behind k) us) ≡ map (λ i. i + k) (ids us)
  ids_over [] = refl
  ids_over (a ∷ us) = ap (λ is. (a.id + k) ∷ is) (ids_over us)

  abbrev moved : Placed Said → Placed Said
  moved = placed_behind n (said_behind k)

  new_kept : (s : Placed Said) → AllByRecursion IsNew s.it.path →
      kept (ends_join n k E F) records (moved s) ≡ option_map (call_behind n k) (kept F S s)
  new_kept s news = ap (kept_in (ends_join n k E F) records (moved s)) (top_over k s.it.path) ∙ by (top_in s.it.path) refl
    where
      at : (top : Act) (b : Bool) →
          cond b (Some (call_of (moved s) (act_behind k top))) None ≡ option_map (call_behind n k) (cond b (Some (call_of s top)) None)
      at top true = ap (λ is.
          Some (record { at = s.at + n; x = s.it.x; op = s.it.op; answer = s.it.answer; top = top.id + k; writer = top.uid; chain = is }))
          (ap ids (chain_over k s.it.path) ∙ ids_over (chain_in s.it.path))
      at top false = refl

      by : (o : Option Act) → top_in s.it.path ≡ o →
          kept_in (ends_join n k E F) records (moved s) (option_map (act_behind k) o) ≡ option_map (call_behind n k) (kept_in F S s o)
      by None e = refl
      by (Some top) e =
          (λ i. cond ((ap (list_all (λ a. has_end (ends_join n k E F) a.id)) (chain_over k s.it.path) ∙ new_chain (chain_in s.it.path)) i
          && new_committed top (top_all IsNew s.it.path top news e) i) (Some (call_of (moved s) (act_behind k top))) None)
          ∙ at top (list_all (λ a. has_end F a.id) (chain_in s.it.path) && is_committed F S top)

  said_path : (P : Act → Type 0) (us : List Act) (b : Body) (s : Said) → AllByRecursion P us → said_of us b ≡ Some s →
      AllByRecursion P s.path
  said_path P us (body.Ok l x op answer) s ps e = let same : record { path = path us (name l); x = x; op = op; answer = answer }
      ≡ s = cc e in subst (λ (z : Said). AllByRecursion P z.path) same (path_all P us (name l) ps)
  said_path P us b s ps e = absurd (cc e)

  said_old : AllByRecursion (λ (s : Placed Said). (s.at < 0 + n) × AllByRecursion IsOld s.it.path) (said first)
  said_old = read_all IsOld (λ s. AllByRecursion IsOld s.path) said_of (said_path IsOld) [] 0 first old_acts

  said_new : AllByRecursion (λ (s : Placed Said). AllByRecursion IsNew s.it.path) (said second)
  said_new =
      all_map (λ (s : Placed Said). (s.at < 0 + length second) × AllByRecursion IsNew s.it.path) (λ s. AllByRecursion IsNew s.it.path)
      (λ s h. h.1) (said second) (read_all IsNew (λ s. AllByRecursion IsNew s.path) said_of (said_path IsNew) [] 0 second new_acts)

  pub calls_join : committed_calls (first ++ second) ≡ committed_calls first ++ calls_behind first (committed_calls second)
  calls_join =
      (λ i. filter_map (kept (commits_join i) (records_join i))
      (read_join said_of (said_behind k) first second (calls_carry (acts first)) apart.labels i))
      ∙ filter_map-append (kept (ends_join n k E F) records) (said first) (map moved (said second))
      ∙ (λ i. filter_map_same (λ (s : Placed Said). (s.at < 0 + n) × AllByRecursion IsOld s.it.path) (kept (ends_join n k E F) records)
      (kept E R) (λ s h. old_kept s h.1) (said first) said_old i
      ++ filter_map_over (λ (s : Placed Said). AllByRecursion IsNew s.it.path) moved (kept (ends_join n k E F) records) (kept F S)
      (call_behind n k) new_kept (said second) said_new i)

  -- a call of the first journal: its place and its numbers are below the counts
  abbrev pub IsLowCall : Call → Type 0
  IsLowCall c = (c.at < n) × (c.top < k) × AllByRecursion (λ i. i < k) c.chain

  pub calls_low : AllByRecursion IsLowCall (committed_calls first)
  calls_low =
      all_filter_map (λ (s : Placed Said). (s.at < 0 + n) × AllByRecursion IsOld s.it.path) IsLowCall (kept E R) low (said first) said_old
    where
      low : (s : Placed Said) (c : Call) → (s.at < 0 + n) × AllByRecursion IsOld s.it.path → kept E R s ≡ Some c → IsLowCall c
      low s c h e = by (top_in s.it.path) refl e
        where
          from : (top : Act) (b : Bool) → IsOld top → cond b (Some (call_of s top)) None ≡ Some c → IsLowCall c
          from top true old g = let same : call_of s top ≡ c = cc g in subst IsLowCall same (
            let below = h.0 in omega (arith, below),
            old.0,
            all_over IsOld (λ i. i < k) (λ (a : Act). a.id) (λ a o. o.0) (chain_in s.it.path) (chain_all IsOld s.it.path h.1),
          )
          from top false old g = absurd (cc g)

          by : (o : Option Act) → top_in s.it.path ≡ o → kept_in E R s o ≡ Some c → IsLowCall c
          by None at g = absurd (cc g)
          by (Some top) at g =
              from top (list_all (λ a. has_end E a.id) (chain_in s.it.path) && is_committed E R top) (top_all IsOld s.it.path top h.1 at) g

  -- ---- tops

  paths_old : AllByRecursion (λ (m : Placed (List Act)). (m.at < 0 + n) × AllByRecursion IsOld m.it) (committings first)
  paths_old = read_all IsOld (AllByRecursion IsOld) committing_of (path_of IsOld) [] 0 first old_acts

  paths_new : AllByRecursion (λ (m : Placed (List Act)). AllByRecursion IsNew m.it) (committings second)
  paths_new = all_map (λ (m : Placed (List Act)). (m.at < 0 + length second) × AllByRecursion IsNew m.it) (λ m. AllByRecursion IsNew m.it)
      (λ m h. h.1) (committings second) (read_all IsNew (AllByRecursion IsNew) committing_of (path_of IsNew) [] 0 second new_acts)

  old_top : (m : Placed (List Act)) → AllByRecursion IsOld m.it → top_of (ends_join n k E F) records m ≡ top_of E R m
  old_top m olds = by (top_in m.it) refl
    where
      by : (o : Option Act) → top_in m.it ≡ o → top_by (ends_join n k E F) records m o ≡ top_by E R m o
      by None e = refl
      by (Some top) e = (λ i. cond (old_committed top (top_all IsOld m.it top olds e) i)
          (Some (record { id = top.id; root = root_or top.id (root_in m.it); at = m.at })) None)

  abbrev moved_path : Placed (List Act) → Placed (List Act)
  moved_path = placed_behind n (map (act_behind k))

  new_top : (m : Placed (List Act)) → AllByRecursion IsNew m.it →
      top_of (ends_join n k E F) records (moved_path m) ≡ option_map (top_behind n k) (top_of F S m)
  new_top m news = ap (top_by (ends_join n k E F) records (moved_path m)) (top_over k m.it) ∙ by (top_in m.it) refl
    where
      root : (i : ℕ) (o : Option ℕ) → root_or (i + k) (option_map (λ j. j + k) o) ≡ root_or i o + k
      root i None = refl
      root i (Some r) = refl

      at : (top : Act) (b : Bool) →
          cond b (Some (record { id = top.id + k; root = root_or (top.id + k) (root_in (map (act_behind k) m.it)); at = m.at + n })) None
          ≡ option_map (top_behind n k) (cond b (Some (record { id = top.id; root = root_or top.id (root_in m.it); at = m.at })) None)
      at top true = ap (λ r. Some (record { id = top.id + k; root = r; at = m.at + n }))
          (ap (root_or (top.id + k)) (root_over k m.it) ∙ root top.id (root_in m.it))
      at top false = refl

      by : (o : Option Act) → top_in m.it ≡ o →
          top_by (ends_join n k E F) records (moved_path m) (option_map (act_behind k) o) ≡ option_map (top_behind n k) (top_by F S m o)
      by None e = refl
      by (Some top) e =
          (λ i. cond (new_committed top (top_all IsNew m.it top news e) i)
          (Some (record { id = top.id + k; root = root_or (top.id + k) (root_in (map (act_behind k) m.it)); at = m.at + n })) None)
          ∙ at top (is_committed F S top)

  pub tops_join : tops (first ++ second) ≡ tops first ++ tops_behind first (tops second)
  tops_join =
      (λ i. filter_map (top_of (commits_join i) (records_join i))
      (read_join committing_of (map (act_behind k)) first second (tops_carry (acts first)) apart.labels i))
      ∙ filter_map-append (top_of (ends_join n k E F) records) (committings first) (map moved_path (committings second))
      ∙ (λ i. filter_map_same (λ (m : Placed (List Act)). (m.at < 0 + n) × AllByRecursion IsOld m.it) (top_of (ends_join n k E F) records)
      (top_of E R) (λ m h. old_top m h.1) (committings first) paths_old i
      ++ filter_map_over (λ (m : Placed (List Act)). AllByRecursion IsNew m.it) moved_path (top_of (ends_join n k E F) records)
      (top_of F S) (top_behind n k) new_top (committings second) paths_new i)

  abbrev pub IsLowTop : Top → Type 0
  IsLowTop t = (t.id < k) × (t.root < k) × (t.at < n)

  pub tops_low : AllByRecursion IsLowTop (tops first)
  tops_low = all_filter_map (λ (m : Placed (List Act)). (m.at < 0 + n) × AllByRecursion IsOld m.it) IsLowTop (top_of E R) low
      (committings first) paths_old
    where
      low : (m : Placed (List Act)) (t : Top) → (m.at < 0 + n) × AllByRecursion IsOld m.it → top_of E R m ≡ Some t → IsLowTop t
      low m t h e = by (top_in m.it) refl e
        where
          root : (i : ℕ) (p : List Act) → i < k → AllByRecursion IsOld p → root_or i (root_in p) < k
          root i [] low olds = low
          root i (a ∷ p) low olds = olds.0.0

          from : (top : Act) (b : Bool) → IsOld top →
              cond b (Some (record { id = top.id; root = root_or top.id (root_in m.it); at = m.at })) None ≡ Some t → IsLowTop t
          from top true old g =
              let same : record { id = top.id; root = root_or top.id (root_in m.it); at = m.at } ≡ t = cc g in
              subst IsLowTop same (old.0, root top.id m.it old.0 h.1, (let below = h.0 in omega (arith, below)))
          from top false old g = absurd (cc g)

          by : (o : Option Act) → top_in m.it ≡ o → top_by E R m o ≡ Some t → IsLowTop t
          by None at g = absurd (cc g)
          by (Some top) at g = from top (is_committed E R top) (top_all IsOld m.it top h.1 at) g
