-- The open actions as actions begin, end and are doomed, and what is asked of them alone.
use Rattle.std.proofs.Common.{◌≡◌, ℕ, ◌+◌, ◌<◌, ◌≤◌, nat_eq, zero, suc, List, [], ◌∷◌, ◌++◌, length, filter, not, ◌&&◌, Bool, true, false, refl}
use Rattle.std.proofs.Common.{ap, sym, ◌∙◌, Option, Some, None, arith, append_assoc, append-nil, add-zero, ◌||◌, is_some, if◌then◌else◌}
use Rattle.std.specs.Prelude.{slice_get, slice_set}
use Rattle.std.specs.List.{list_any}
use Rattle.arj_protocol.specs.Ask.{actor}
use Rattle.arj_protocol.specs.Tree.{Branch, is_open_below, is_parent, latest_first}
use Rattle.arj_protocol.specs.Words.{Uid, Path, End, uids_of, before_last}
use Rattle.indexmap.specs.IndexMap.{insert_entry, shift_remove_entry}
use Rattle.arj_tree.specs.Open.{Opens, opens, is_path_below, below, latest, has_child, first_in}

-- an action that begins is the last one
pub opens_begun : (n : ℕ) (bs : List Branch) (b : Branch) → b.ended ≡ None →
    opens n (bs ++ b ∷ []) ≡ opens n bs ++ (n + length bs, b.path) ∷ []
opens_begun n [] b open_now = rw (open_now, add-zero) refl
opens_begun n (c ∷ bs) b open_now = by (is_some c.ended) (opens_begun (n + 1) bs b open_now)
  where
    place : (n + 1) + length bs ≡ n + suc (length bs)
    place = omega arith

    by : (t : Bool) → opens (n + 1) (bs ++ b ∷ []) ≡ opens (n + 1) bs ++ ((n + 1) + length bs, b.path) ∷ []
        → (if t then opens (n + 1) (bs ++ b ∷ []) else (n, c.path) ∷ opens (n + 1) (bs ++ b ∷ [])) ≡ (if t then opens (n + 1) bs else (n, c.path) ∷ opens (n + 1) bs) ++ (n + suc (length bs), b.path) ∷ []
    by true ih = ih ∙ ap (λ k. opens (n + 1) bs ++ (k, b.path) ∷ []) place
    by false ih = ap (λ es. (n, c.path) ∷ es) (ih ∙ ap (λ k. opens (n + 1) bs ++ (k, b.path) ∷ []) place)

-- an action whose number is above those of all others goes last
pub inserted_last : (m n : ℕ) (p : Path) (bs : List Branch) → n + length bs ≤ m →
    insert_entry nat_eq (opens n bs) m p ≡ opens n bs ++ (m, p) ∷ []
inserted_last m n p [] within = refl
inserted_last m n p (b ∷ bs) within = by (is_some b.ended) (inserted_last m (n + 1) p bs (omega (arith, within)))
  where
    other : nat_eq m n ≡ false
    other = grind (arith, within)

    by : (t : Bool) → insert_entry nat_eq (opens (n + 1) bs) m p ≡ opens (n + 1) bs ++ (m, p) ∷ [] →
        insert_entry nat_eq (if t then opens (n + 1) bs else (n, b.path) ∷ opens (n + 1) bs) m p ≡ (if t then opens (n + 1) bs else (n, b.path) ∷ opens (n + 1) bs) ++ (m, p) ∷ []
    by true ih = ih
    by false ih = rw other (ap (λ es. (n, b.path) ∷ es) ih)

-- a number below those of all actions takes none out
removed_below : (m n : ℕ) (bs : List Branch) → m < n → shift_remove_entry (nat_eq m) (opens n bs) ≡ opens n bs
removed_below m n [] less = refl
removed_below m n (b ∷ bs) less = by (is_some b.ended) (removed_below m (n + 1) bs (omega (arith, less)))
  where
    other : nat_eq m n ≡ false
    other = grind (arith, less)

    by : (t : Bool) → shift_remove_entry (nat_eq m) (opens (n + 1) bs) ≡ opens (n + 1) bs →
        shift_remove_entry (nat_eq m) (if t then opens (n + 1) bs else (n, b.path) ∷ opens (n + 1) bs) ≡ (if t then opens (n + 1) bs else (n, b.path) ∷ opens (n + 1) bs)
    by true ih = ih
    by false ih = rw other (ap (λ es. (n, b.path) ∷ es) ih)

-- an action that ends goes
pub opens_ended : (n k : ℕ) (bs : List Branch) (b : Branch) (e : End) → slice_get bs k ≡ Some b →
    opens n (slice_set bs k (record b { ended = Some e })) ≡ shift_remove_entry (nat_eq (n + k)) (opens n bs)
opens_ended n k [] b e at = absurd (cc at)
opens_ended n zero (c ∷ bs) b e at =
    by (is_some c.ended) (removed_below n (n + 1) bs (omega arith)) ∙ ap (λ m. shift_remove_entry (nat_eq m) (opens n (c ∷ bs))) (sym (add-zero n))
  where
    same : nat_eq n n ≡ true
    same = grind arith

    by : (t : Bool) → shift_remove_entry (nat_eq n) (opens (n + 1) bs) ≡ opens (n + 1) bs →
        opens (n + 1) bs ≡ shift_remove_entry (nat_eq n) (if t then opens (n + 1) bs else (n, c.path) ∷ opens (n + 1) bs)
    by true stays = sym stays
    by false stays = rw same refl
opens_ended n (suc k) (c ∷ bs) b e at = by (is_some c.ended) (opens_ended (n + 1) k bs b e at)
  where
    place : (n + 1) + k ≡ n + suc k
    place = omega arith

    other : nat_eq (n + suc k) n ≡ false
    other = grind arith

    changed : List Branch
    changed = slice_set bs k (record b { ended = Some e })

    by : (t : Bool) → opens (n + 1) changed ≡ shift_remove_entry (nat_eq ((n + 1) + k)) (opens (n + 1) bs)
        → (if t then opens (n + 1) changed else (n, c.path) ∷ opens (n + 1) changed) ≡ shift_remove_entry (nat_eq (n + suc k)) (if t then opens (n + 1) bs else (n, c.path) ∷ opens (n + 1) bs)
    by true ih = ih ∙ ap (λ m. shift_remove_entry (nat_eq m) (opens (n + 1) bs)) place
    by false ih = rw other (ap (λ es. (n, c.path) ∷ es) (ih ∙ ap (λ m. shift_remove_entry (nat_eq m) (opens (n + 1) bs)) place))

-- an action that is doomed stays
pub opens_doomed : (n k : ℕ) (bs : List Branch) (b : Branch) → slice_get bs k ≡ Some b →
    opens n (slice_set bs k (record b { doomed = true })) ≡ opens n bs
opens_doomed n k [] b at = refl
opens_doomed n zero (c ∷ bs) b at =
    let same : c ≡ b = cc at in ap (λ (x : Branch). if is_some x.ended then opens (n + 1) bs else (n, x.path) ∷ opens (n + 1) bs) (sym same)
opens_doomed n (suc k) (c ∷ bs) b at = ap (λ es. if is_some c.ended then es else (n, c.path) ∷ es) (opens_doomed (n + 1) k bs b at)

-- an open action was begun in this one
pub child_is : (u : Uid) (n : ℕ) (bs : List Branch) →
    list_any (λ b. is_parent u (before_last (uids_of b.path)) && not (is_some b.ended)) bs ≡ has_child u (opens n bs)
child_is u n [] = refl
child_is u n (b ∷ bs) = by (is_parent u (before_last (uids_of b.path))) refl (is_some b.ended) (child_is u (n + 1) bs)
  where
    rest : Bool
    rest = list_any (λ b. is_parent u (before_last (uids_of b.path)) && not (is_some b.ended)) bs

    by : (p : Bool) → is_parent u (before_last (uids_of b.path)) ≡ p → (t : Bool) → rest ≡ has_child u (opens (n + 1) bs)
        → ((p && not t) || rest) ≡ has_child u (if t then opens (n + 1) bs else (n, b.path) ∷ opens (n + 1) bs)
    by true is true ih = ih
    by false is true ih = ih
    by true is false ih = rw is refl
    by false is false ih = rw is ih

-- of actions the last one is the first of the descendants, where it is one
pub below_last : (u : Uid) (es : Opens) (e : ℕ × Path) →
    below u (es ++ e ∷ []) ≡ (if is_path_below u e.1 then actor e.1 ∷ [] else []) ++ below u es
below_last u [] e = sym (append-nil (if is_path_below u e.1 then actor e.1 ∷ [] else []))
below_last u (d ∷ es) e =
    ap (λ us. us ++ (if is_path_below u d.1 then actor d.1 ∷ [] else [])) (below_last u es e)
    ∙ append_assoc (if is_path_below u e.1 then actor e.1 ∷ [] else []) (below u es) (if is_path_below u d.1 then actor d.1 ∷ [] else [])

-- the open descendants, the one begun last first
pub below_is : (u : Uid) (n : ℕ) (bs : List Branch) (found : List Uid) →
    latest_first (filter (is_open_below u) bs) found ≡ below u (opens n bs) ++ found
below_is u n [] found = refl
below_is u n (b ∷ bs) found = by (is_path_below u b.path) refl (is_some b.ended) (below_is u (n + 1) bs)
  where
    rest : List Branch
    rest = filter (is_open_below u) bs

    by : (p : Bool) → is_path_below u b.path ≡ p → (t : Bool) →
        ((found : List Uid) → latest_first rest found ≡ below u (opens (n + 1) bs) ++ found)
        → latest_first (if p && not t then b ∷ rest else rest) found ≡ below u (if t then opens (n + 1) bs else (n, b.path) ∷ opens (n + 1) bs) ++ found
    by true is true ih = ih found
    by false is true ih = ih found
    by true is false ih = rw is (ih (actor b.path ∷ found) ∙ sym (append_assoc (below u (opens (n + 1) bs)) (actor b.path ∷ []) found))
    by false is false ih = rw is (ih found ∙ ap (λ us. us ++ found) (sym (append-nil (below u (opens (n + 1) bs)))))

-- and the first of them
pub latest_is : (u : Uid) (n : ℕ) (bs : List Branch) (found : List Uid) →
    latest u (first_in found) (opens n bs) ≡ first_in (latest_first (filter (is_open_below u) bs) found)
latest_is u n [] found = refl
latest_is u n (b ∷ bs) found = by (is_path_below u b.path) refl (is_some b.ended) (latest_is u (n + 1) bs)
  where
    rest : List Branch
    rest = filter (is_open_below u) bs

    chosen : Bool → Option Uid
    chosen p = latest u (if p then Some (actor b.path) else first_in found) (opens (n + 1) bs)

    by : (p : Bool) → is_path_below u b.path ≡ p → (t : Bool) →
        ((found : List Uid) → latest u (first_in found) (opens (n + 1) bs) ≡ first_in (latest_first rest found))
        → latest u (first_in found) (if t then opens (n + 1) bs else (n, b.path) ∷ opens (n + 1) bs) ≡ first_in (latest_first (if p && not t then b ∷ rest else rest) found)
    by true is true ih = ih found
    by false is true ih = ih found
    by true is false ih = ap chosen is ∙ ih (actor b.path ∷ found)
    by false is false ih = ap chosen is ∙ ih found
