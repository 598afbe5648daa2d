-- What is read of two journals, one behind the other.
use Rattle.arj_law.proofs.Terms
use Terms.{◌≡◌, ℕ, ◌+◌, List, [], ◌∷◌, ◌++◌, length, map, Bool, true, false, cond, Option, Some, None, refl, sym, ◌∙◌, ap, subst, arith}
use Terms.{length-append, AllByRecursion, option_map, bytes_eq, length-map, Body, Kind, Line, name, Act, Begun, Placed, act_in, acts}
use Terms.{acts_after, acts_from, begun_of, behind_first, chain_in, committed_of, numbered, path, put, read, recovered_of}
use Terms.{root_in, top_in, upwards, Said, committing_of, said_of, Exclusion, Inclusion, excluded_of, exclusion_by, included_of}
use Terms.body
use Terms.kind
use Rattle.arj_law.proofs.{Common.never, Reading.read-append, Reading.acts-append}
use Rattle.arj_law.specs.Joined.{looked_up}
use Rattle.std.proofs.{Common.is_some, lemmas.List.map-append}
use Rattle.arj_start.specs.Kinds.{is_serial}

-- ---- actions

-- an action behind so many
abbrev pub act_behind : ℕ → Act → Act
act_behind k a = record { id = a.id + k; label = a.label; kind = a.kind; uid = a.uid; parent = a.parent }

-- these actions begun behind those
abbrev pub behind : List Act → List Act → List Act
behind us vs = map (act_behind (length us)) vs ++ us

after_join : (us vs : List Act) (o : Option Begun) → numbered (behind us vs) o ≡ behind us (numbered vs o)
after_join us vs None = refl
after_join us vs (Some b) = ap (λ n. record { id = n; label = b.label; kind = b.kind; uid = b.uid; parent = b.parent } ∷ behind us vs)
    (length-append (map (act_behind (length us)) vs) us ∙ ap (λ n. n + length us) (length-map vs (act_behind (length us))))

from_join : (us vs : List Act) (ls : List Line) → acts_from (behind us vs) ls ≡ behind us (acts_from vs ls)
from_join us vs [] = refl
from_join us vs (l ∷ ls) = ap (λ ws. acts_from ws ls) (after_join us vs (begun_of l.body)) ∙ from_join us (acts_after vs l.body) ls

pub acts_join : (ls ks : List Line) → acts (ls ++ ks) ≡ behind (acts ls) (acts ks)
acts_join ls ks = acts-append [] ls ks ∙ from_join (acts ls) [] ks

-- ---- labels

-- these actions have no parent among those
abbrev pub HaveNewParents : List Act → List Act → Type 0
HaveNewParents us vs = AllByRecursion (λ v. (p : List ℕ) → v.parent ≡ Some p → is_some (act_in us p) ≡ false) vs

-- a line has no label of them
abbrev pub IsNewLine : List Act → Body → Type 0
IsNewLine us b = AllByRecursion (λ l. is_some (act_in us l) ≡ false) (looked_up b)

parents_after : (us vs : List Act) (b : Body) → IsNewLine us b → HaveNewParents us vs → HaveNewParents us (acts_after vs b)
parents_after us vs (body.Began l k u None) new h = ((λ p e. absurd (cc e)), h)
parents_after us vs (body.Began l k u (Some q)) new h =
    ((λ p e. let same : name q ≡ p = cc e in subst (λ z. is_some (act_in us z) ≡ false) same new.0), h)
parents_after us vs b new h = h

act_none : (us : List Act) (l : List ℕ) → is_some (act_in us l) ≡ false → act_in us l ≡ None
act_none us l e = by (act_in us l) e
  where
    by : (o : Option Act) → is_some o ≡ false → o ≡ None
    by None e = refl
    by (Some a) e = never true refl e

act_join : (us vs : List Act) (l : List ℕ) → is_some (act_in us l) ≡ false →
    act_in (behind us vs) l ≡ option_map (act_behind (length us)) (act_in vs l)
act_join us [] l e = act_none us l e
act_join us (v ∷ vs) l e = by (act_join us vs l e) (bytes_eq v.label l)
  where
    by : act_in (behind us vs) l ≡ option_map (act_behind (length us)) (act_in vs l) → (b : Bool) → cond b
        (Some (act_behind (length us) v)) (act_in (behind us vs) l) ≡ option_map (act_behind (length us)) (cond b (Some v) (act_in vs l))
    by ih true = refl
    by ih false = ih

no_path : (us : List Act) (l : List ℕ) → is_some (act_in us l) ≡ false → path us l ≡ []
no_path [] l e = refl
no_path (u ∷ us) l e = by (no_path us l) (bytes_eq u.label l) e
  where
    by : (is_some (act_in us l) ≡ false → path us l ≡ []) → (b : Bool) → is_some (cond b (Some u) (act_in us l)) ≡ false →
        cond b (upwards u.parent u.kind (path us) ++ u ∷ []) (path us l) ≡ []
    by ih true e = never true refl e
    by ih false e = ih e

upwards_join : (m : Act → Act) (f g : List ℕ → List Act) (o : Option (List ℕ)) (k : Kind) →
    ((p : List ℕ) → o ≡ Some p → f p ≡ map m (g p)) → upwards o k f ≡ map m (upwards o k g)
upwards_join m f g None k h = refl
upwards_join m f g (Some p) kind.Independent h = refl
upwards_join m f g (Some p) k h = h p refl

pub path_join : (us vs : List Act) (l : List ℕ) → is_some (act_in us l) ≡ false → HaveNewParents us vs →
    path (behind us vs) l ≡ map (act_behind (length us)) (path vs l)
path_join us [] l e h = no_path us l e
path_join us (v ∷ vs) l e h = by (upwards_join m (path (behind us vs)) (path vs) v.parent v.kind (λ p is. path_join us vs p (h.0 p is) h.1))
    (path_join us vs l e h.1) (bytes_eq v.label l)
  where
    m : Act → Act
    m = act_behind (length us)

    by : upwards v.parent v.kind (path (behind us vs)) ≡ map m (upwards v.parent v.kind (path vs)) →
        path (behind us vs) l ≡ map m (path vs l)
        → (b : Bool) → cond b (upwards v.parent v.kind (path (behind us vs)) ++ m v ∷ []) (path (behind us vs) l)
        ≡ map m (cond b (upwards v.parent v.kind (path vs) ++ v ∷ []) (path vs l))
    by up ih true = ap (λ p. p ++ m v ∷ []) up ∙ sym (map-append m (upwards v.parent v.kind (path vs)) (v ∷ []))
    by up ih false = ih

-- ---- paths

pub top_over : (k : ℕ) (p : List Act) → top_in (map (act_behind k) p) ≡ option_map (act_behind k) (top_in p)
top_over k [] = refl
top_over k (a ∷ []) = by (is_serial a.kind)
  where
    by : (b : Bool) → cond b None (Some (act_behind k a)) ≡ option_map (act_behind k) (cond b None (Some a))
    by true = refl
    by false = refl
top_over k (a ∷ b ∷ rest) = by (is_serial a.kind)
  where
    by : (c : Bool) → cond c (Some (act_behind k b)) (Some (act_behind k a)) ≡ option_map (act_behind k) (cond c (Some b) (Some a))
    by true = refl
    by false = refl

pub chain_over : (k : ℕ) (p : List Act) → chain_in (map (act_behind k) p) ≡ map (act_behind k) (chain_in p)
chain_over k [] = refl
chain_over k (a ∷ rest) = by (is_serial a.kind)
  where
    second : (q : List Act) → behind_first (map (act_behind k) q) ≡ map (act_behind k) (behind_first q)
    second [] = refl
    second (b ∷ q) = refl

    by : (b : Bool) →
        cond b (behind_first (map (act_behind k) rest)) (map (act_behind k) rest) ≡ map (act_behind k) (cond b (behind_first rest) rest)
    by true = second rest
    by false = refl

pub root_over : (k : ℕ) (p : List Act) → root_in (map (act_behind k) p) ≡ option_map (λ i. i + k) (root_in p)
root_over k [] = refl
root_over k (a ∷ rest) = refl

-- ---- items

-- an item behind so many lines, moved
abbrev pub placed_behind : {A B : Type 0} → ℕ → (A → B) → Placed A → Placed B
placed_behind n g s = record { at = s.at + n; it = g s.it }

-- what a line says behind other actions is what it says, moved
abbrev pub Carries : {A : Type 0} → List Act → (List Act → Body → Option A) → (A → A) → Type 0
Carries us f g = (vs : List Act) (b : Body) → HaveNewParents us vs → IsNewLine us b → f (behind us vs) b ≡ option_map g (f vs b)

module _ {A : Type 0} (us : List Act) (f : List Act → Body → Option A) (g : A → A) (carries : Carries us f g) (n : ℕ) where
  read_over : (vs : List Act) (m : ℕ) (ks : List Line) → HaveNewParents us vs → AllByRecursion (λ (l : Line). IsNewLine us l.body) ks →
      read f (behind us vs) (m + n) ks ≡ map (placed_behind n g) (read f vs m ks)
  read_over vs m [] parents new = refl
  read_over vs m (k ∷ ks) parents new =
      ap (λ o. put (m + n) o (read f (acts_after (behind us vs) k.body) ((m + n) + 1) ks)) (carries vs k.body parents new.0)
      ∙ by (read_over (acts_after vs k.body) (m + 1) ks (parents_after us vs k.body new.0 parents) new.1) (f vs k.body)
    where
      moved : List (Placed A)
      moved = map (placed_behind n g) (read f (acts_after vs k.body) (m + 1) ks)

      rest : read f (behind us (acts_after vs k.body)) ((m + 1) + n) ks ≡ moved →
          read f (acts_after (behind us vs) k.body) ((m + n) + 1) ks ≡ moved
      rest ih = ap (λ ws. read f ws ((m + n) + 1) ks) (after_join us vs (begun_of k.body))
          ∙ ap (λ j. read f (behind us (acts_after vs k.body)) j ks) (omega arith) ∙ ih

      by : read f (behind us (acts_after vs k.body)) ((m + 1) + n) ks ≡ moved → (o : Option A) →
          put (m + n) (option_map g o) (read f (acts_after (behind us vs) k.body) ((m + n) + 1) ks)
          ≡ map (placed_behind n g) (put m o (read f (acts_after vs k.body) (m + 1) ks))
      by ih None = rest ih
      by ih (Some a) = ap (λ ss. record { at = m + n; it = g a } ∷ ss) (rest ih)

pub read_join : {A : Type 0} (f : List Act → Body → Option A) (g : A → A) (ls ks : List Line) → Carries (acts ls) f g →
    AllByRecursion (λ (l : Line). IsNewLine (acts ls) l.body) ks
    → read f [] 0 (ls ++ ks) ≡ read f [] 0 ls ++ map (placed_behind (length ls) g) (read f [] 0 ks)
read_join f g ls ks carries new =
    read-append f [] 0 ls ks ∙ ap (λ rest. read f [] 0 ls ++ rest) (read_over (acts ls) f g carries (length ls) [] 0 ks tt new)

-- ---- each kind of item

-- a call, with its path behind so many actions
abbrev pub said_behind : ℕ → Said → Said
said_behind k s = record { path = map (act_behind k) s.path; x = s.x; op = s.op; answer = s.answer }

abbrev pub excluded_behind : ℕ → Exclusion → Exclusion
excluded_behind k e = record { top = e.top + k; x = e.x; node = e.node }

abbrev pub included_behind : ℕ → Inclusion → Inclusion
included_behind k i = record { path = map (act_behind k) i.path; x = i.x; node = i.node }

pub commits_carry : (us : List Act) → Carries us committed_of (λ i. i + length us)
commits_carry us vs (body.Committed l) parents new = ap (option_map (λ a. a.id)) (act_join us vs (name l) new.0) ∙ by (act_in vs (name l))
  where
    by : (o : Option Act) →
        option_map (λ a. a.id) (option_map (act_behind (length us)) o) ≡ option_map (λ i. i + length us) (option_map (λ a. a.id) o)
    by None = refl
    by (Some a) = refl
commits_carry us vs b parents new = refl

pub records_carry : (us : List Act) → Carries us recovered_of (λ u. u)
records_carry us vs (body.Recovered n u) parents new = refl
records_carry us vs b parents new = refl

pub calls_carry : (us : List Act) → Carries us said_of (said_behind (length us))
calls_carry us vs (body.Ok l x op answer) parents new =
    ap (λ p. Some (record { path = p; x = x; op = op; answer = answer })) (path_join us vs (name l) new.0 parents)
calls_carry us vs b parents new = refl

pub tops_carry : (us : List Act) → Carries us committing_of (map (act_behind (length us)))
tops_carry us vs (body.Committing l) parents new = ap (λ p. Some p) (path_join us vs (name l) new.0 parents)
tops_carry us vs b parents new = refl

pub excludes_carry : (us : List Act) → Carries us excluded_of (excluded_behind (length us))
excludes_carry us vs (body.Excluded l x n) parents new = ap (λ p. exclusion_by x n (top_in p)) (path_join us vs (name l) new.0 parents)
    ∙ ap (exclusion_by x n) (top_over (length us) (path vs (name l))) ∙ by (top_in (path vs (name l)))
  where
    by : (o : Option Act) →
        exclusion_by x n (option_map (act_behind (length us)) o) ≡ option_map (excluded_behind (length us)) (exclusion_by x n o)
    by None = refl
    by (Some a) = refl
excludes_carry us vs b parents new = refl

pub includes_carry : (us : List Act) → Carries us included_of (included_behind (length us))
includes_carry us vs (body.Includes l x n) parents new =
    ap (λ p. Some (record { path = p; x = x; node = n })) (path_join us vs (name l) new.0 parents)
includes_carry us vs b parents new = refl
