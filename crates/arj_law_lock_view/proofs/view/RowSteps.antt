-- Rows of the protocol's tables and of the machine's, step by step.
use Rattle.arj_law_parts.proofs.Words
use Words.{◌≡◌, ◌≤◌, ◌∙◌, ◌&&◌, ◌||◌, nat_le, not, ℕ, List, [], ◌∷◌, Bool, true, false, cond, max, Some, None, refl, sym, ap, subst, arith}
use Words.{⊤, min, and_parts, uid_is, uid_same, Uid, Mode, Row, uid_eq, last_uid, is_on, is_row_of, grant_row, lower_row, drop_rows}
use Words.{stronger, mode_code, conflicting, first_conflict, row_for, rows_asked, is_granted, is_against}
use Words.mode
use Rattle.arj_law_lock_view.proofs.Terms
use Terms.{Act, same, on, Clear, raise, same_self, same_is, act_cases, Acts, IsAlong, strength, held_in, SeesRows}
use Rattle.arj_law_lock.specs.machine.Rows as machine

-- ---- strengths

pub stronger_is : (a b : Mode) → strength (stronger a b) ≡ max (strength a) (strength b)
stronger_is mode.Read mode.Read = refl
stronger_is mode.Read mode.Exclude = refl
stronger_is mode.Read mode.Write = refl
stronger_is mode.Exclude mode.Read = refl
stronger_is mode.Exclude mode.Exclude = refl
stronger_is mode.Exclude mode.Write = refl
stronger_is mode.Write mode.Read = refl
stronger_is mode.Write mode.Exclude = refl
stronger_is mode.Write mode.Write = refl

-- a mode of at least this code is of at least this strength
pub at_least : (a b : Mode) → nat_le (mode_code a) (mode_code b) ≡ true → strength a ≤ strength b
at_least mode.Read mode.Read h = omega arith
at_least mode.Read mode.Exclude h = omega arith
at_least mode.Read mode.Write h = omega arith
at_least mode.Exclude mode.Read h = absurd (cc h)
at_least mode.Exclude mode.Exclude h = omega arith
at_least mode.Exclude mode.Write h = omega arith
at_least mode.Write mode.Read h = absurd (cc h)
at_least mode.Write mode.Exclude h = absurd (cc h)
at_least mode.Write mode.Write h = omega arith

-- ---- what a table holds

-- a row of the object counts for its holder's action
abbrev pub counts : Acts → Uid → Act → Row → Bool
counts act object a r = uid_eq r.object object && same (act (last_uid r.holder)) a

abbrev pub part_of : Acts → Uid → Act → Row → ℕ
part_of act object a r = cond (counts act object a r) (strength r.mode) 0

part_stronger : (act : Acts) (object : Uid) (a : Act) (r : Row) (m : Mode) →
    part_of act object a r ≤ part_of act object a (record r { mode = stronger r.mode m })
part_stronger act object a r m = by (counts act object a r)
  where
    by : (b : Bool) → cond b (strength r.mode) 0 ≤ cond b (strength (stronger r.mode m)) 0
    by true = let k = stronger_is r.mode m in omega (arith, k)
    by false = omega arith

part_own : (act : Acts) (object : Uid) (r : Row) (m : Mode) (u : Uid) → is_row_of object u r ≡ true →
    strength m ≤ part_of act object (act u) (record r { mode = stronger r.mode m })
part_own act object r m u is =
    let both = and_parts (uid_eq r.object object) (uid_eq (last_uid r.holder) u) is in
    let own : counts act object (act u) r ≡ true = (λ i. both.0 i && same (act (uid_is (last_uid r.holder) u both.1 i)) (act u))
    ∙ same_self (act u) in
    let k = stronger_is r.mode m in
    subst (λ b. strength m ≤ cond b (strength (stronger r.mode m)) 0) (sym own) (omega (arith, k))

-- a grant leaves each action at least what it had
pub grant_keeps : (act : Acts) (object : Uid) (a : Act) (new : Row) (rows : List Row) →
    held_in act object a rows ≤ held_in act object a (grant_row new rows)
grant_keeps act object a new [] = omega arith
grant_keeps act object a new (r ∷ rs) = by (grant_keeps act object a new rs) (is_row_of new.object (last_uid new.holder) r)
  where
    by : held_in act object a rs ≤ held_in act object a (grant_row new rs) → (b : Bool) → max (part_of act object a r)
        (held_in act object a rs) ≤ held_in act object a (cond b (record r { mode = stronger r.mode new.mode } ∷ rs) (r ∷ grant_row new rs))
    by rest true = let k = part_stronger act object a r new.mode in omega (arith, k)
    by rest false = omega (arith, rest)

-- and its own action what it was granted
pub grant_gives : (act : Acts) (object : Uid) (new : Row) (rows : List Row) → new.object ≡ object →
    strength new.mode ≤ held_in act object (act (last_uid new.holder)) (grant_row new rows)
grant_gives act object new [] of = subst (λ b. strength new.mode ≤ max (cond b (strength new.mode) 0) 0)
    (sym ((λ i. uid_eq (of i) object && same_self (act (last_uid new.holder)) i) ∙ ap (λ b. b && true) (uid_same object))) (omega arith)
grant_gives act object new (r ∷ rs) of = by (grant_gives act object new rs of) (is_row_of new.object (last_uid new.holder) r) refl
  where
    by : strength new.mode ≤ held_in act object (act (last_uid new.holder)) (grant_row new rs) → (b : Bool) →
        is_row_of new.object (last_uid new.holder) r ≡ b → strength new.mode
        ≤ held_in act object (act (last_uid new.holder)) (cond b (record r { mode = stronger r.mode new.mode } ∷ rs) (r ∷ grant_row new rs))
    by rest true is = let k = part_own act object r new.mode (last_uid new.holder)
        (ap (λ x. is_row_of x (last_uid new.holder) r) (sym of) ∙ is) in omega (arith, k)
    by rest false is = omega (arith, rest)

-- a row that is there is held
pub granted_holds : (act : Acts) (object : Uid) (u : Uid) (m : Mode) (rows : List Row) → is_granted object u m rows ≡ true →
    strength m ≤ held_in act object (act u) rows
granted_holds act object u m [] is = absurd (cc is)
granted_holds act object u m (r ∷ rs) is =
    by (is_row_of object u r && nat_le (mode_code m) (mode_code r.mode)) refl is (granted_holds act object u m rs)
  where
    by : (b : Bool) → (is_row_of object u r && nat_le (mode_code m) (mode_code r.mode)) ≡ b → (b || is_granted object u m rs) ≡ true →
        (is_granted object u m rs ≡ true → strength m ≤ held_in act object (act u) rs)
        → strength m ≤ max (part_of act object (act u) r) (held_in act object (act u) rs)
    by true here there ih =
        let both = and_parts (is_row_of object u r) (nat_le (mode_code m) (mode_code r.mode)) here in
        let row = and_parts (uid_eq r.object object) (uid_eq (last_uid r.holder) u) both.0 in
        let own : counts act object (act u) r ≡ true = (λ i. row.0 i && same (act (uid_is (last_uid r.holder) u row.1 i)) (act u))
        ∙ same_self (act u) in
        let k = at_least m r.mode both.1 in
        subst (λ b. strength m ≤ max (cond b (strength r.mode) 0) (held_in act object (act u) rs)) (sym own) (omega (arith, k))
    by false here there ih = let k = ih there in omega (arith, k)

-- ---- a lock that is asked and free

module _ (act : Acts) (object : Uid) (holder : List Uid) (tops : ℕ) (m : Mode) (rows : List Row) where
  abbrev new : Row
  new = row_for object holder tops m

  pub asked_keeps : (a : Act) → held_in act object a rows ≤ held_in act object a (rows_asked new rows)
  asked_keeps a = by (is_granted object (last_uid holder) m rows)
    where
      by : (b : Bool) → held_in act object a rows ≤ held_in act object a (cond b rows (grant_row new rows))
      by true = omega arith
      by false = grant_keeps act object a new rows

  asked_gives : strength m ≤ held_in act object (act (last_uid holder)) (rows_asked new rows)
  asked_gives = by (is_granted object (last_uid holder) m rows) refl
    where
      by : (b : Bool) → is_granted object (last_uid holder) m rows ≡ b →
          strength m ≤ held_in act object (act (last_uid holder)) (cond b rows (grant_row new rows))
      by true is = granted_holds act object (last_uid holder) m rows is
      by false is = grant_gives act object new rows refl

  -- the machine's row is raised
  pub raised_seen : (seen : machine.Rows) → SeesRows act object rows seen →
      SeesRows act object (rows_asked new rows) (raise seen (act (last_uid holder)) (strength m))
  raised_seen seen old = act_cases (λ (a : Act) (v : ℕ). v ≤ held_in act object a (rows_asked new rows)) seen (act (last_uid holder))
      (max (seen (act (last_uid holder))) (strength m))
      (let j = old (act (last_uid holder)) in let k = asked_keeps (act (last_uid holder)) in let l = asked_gives in omega (arith, j, k, l))
      (λ a other. let j = old a in let k = asked_keeps a in omega (arith, j, k))

  -- or stays as it is
  pub asked_seen : (seen : machine.Rows) → SeesRows act object rows seen → SeesRows act object (rows_asked new rows) seen
  asked_seen seen old a = let j = old a in let k = asked_keeps a in omega (arith, j, k)

-- ---- no conflict

-- what is held by an action that isn't on the requester's path stands in no row that is against the request
module _ (act : Acts) (object : Uid) (path : List Uid) (m : Mode) (along : IsAlong act path) (b : Act)
    (off : on (act (last_uid path)) b ≡ false) where
  off_path : (r : Row) → counts act object b r ≡ true → is_on path (last_uid r.holder) ≡ false
  off_path r c = by (is_on path (last_uid r.holder)) refl
    where
      here : act (last_uid r.holder) ≡ b
      here =
          same_is (act (last_uid r.holder)) b (let both = and_parts (uid_eq r.object object) (same (act (last_uid r.holder)) b) c in both.1)

      by : (x : Bool) → is_on path (last_uid r.holder) ≡ x → x ≡ false
      by true is = let up = along.above (last_uid r.holder) is in absurd (cc (sym up ∙ ap (on (act (last_uid path))) here ∙ off))
      by false is = refl

  against_of : (r : Row) → counts act object b r ≡ true → is_against path object m r ≡ conflicting r.mode m
  against_of r c = λ i. (let both = and_parts (uid_eq r.object object) (same (act (last_uid r.holder)) b) c in
      both.0) i && (not (off_path r c i) && conflicting r.mode m)

  -- no row of it is against the request
  abbrev AreFree : List Row → Type 0
  AreFree rows = first_conflict path object m rows ≡ None

  free_rest : (r : Row) (rs : List Row) → AreFree (r ∷ rs) → (is_against path object m r ≡ false) × AreFree rs
  free_rest r rs none = by (is_against path object m r) none
    where
      by : (x : Bool) → cond x (Some r) (first_conflict path object m rs) ≡ None → (x ≡ false) × AreFree rs
      by true h = absurd (cc h)
      by false h = (refl, h)

  part_bound : (r : Row) (k : ℕ) → is_against path object m r ≡ false → (conflicting r.mode m ≡ false → strength r.mode ≤ k) →
      part_of act object b r ≤ k
  part_bound r k free le = by (counts act object b r) refl
    where
      by : (x : Bool) → counts act object b r ≡ x → cond x (strength r.mode) 0 ≤ k
      by true c = le (sym (against_of r c) ∙ free)
      by false c = omega arith

  held_bound : (k : ℕ) → ((n : Mode) → conflicting n m ≡ false → strength n ≤ k) → (rows : List Row) → AreFree rows →
      held_in act object b rows ≤ k
  held_bound k le [] none = omega arith
  held_bound k le (r ∷ rs) none =
      let free = free_rest r rs none in
      let i = part_bound r k free.0 (le r.mode) in
      let j = held_bound k le rs free.1 in omega (arith, i, j)

not_write : (m n : Mode) → conflicting n m ≡ false → strength n ≤ 1
not_write m mode.Read h = omega arith
not_write m mode.Exclude h = omega arith
not_write m mode.Write h = absurd (cc h)

not_any : (n : Mode) → conflicting n mode.Write ≡ false → strength n ≤ 0
not_any mode.Read h = absurd (cc h)
not_any mode.Exclude h = absurd (cc h)
not_any mode.Write h = absurd (cc h)

-- a request that meets no conflict is clear in the machine
pub clear_seen : (act : Acts) (object : Uid) (path : List Uid) (m : Mode) (rows : List Row) (seen : machine.Rows) → IsAlong act path →
    SeesRows act object rows seen → first_conflict path object m rows ≡ None
    → Clear seen (act (last_uid path)) (strength m)
clear_seen act object path m rows seen along old free b off = (first, second m free)
  where
    first : seen b ≤ 1
    first = let i = old b in let j = held_bound act object path m along b off 1 (not_write m) rows free in omega (arith, i, j)

    second : (n : Mode) → first_conflict path object n rows ≡ None → 2 ≤ strength n → seen b ≡ 0
    second mode.Read none h = absurd (omega (arith, h))
    second mode.Exclude none h = absurd (omega (arith, h))
    second mode.Write none h = let i = old b in let j = held_bound act object path mode.Write along b off 0 not_any rows none in
        omega (arith, i, j)

-- ---- a lock that is lowered to read

part_lowered : (act : Acts) (object : Uid) (a : Act) (r : Row) →
    min (part_of act object a r) 1 ≤ part_of act object a (record r { mode = mode.Read })
part_lowered act object a r = by (counts act object a r)
  where
    by : (b : Bool) → min (cond b (strength r.mode) 0) 1 ≤ cond b 1 0
    by true = omega arith
    by false = omega arith

-- each action keeps a read lock, where it had a lock
pub lowered_keeps : (act : Acts) (object u : Uid) (a : Act) (rows : List Row) →
    min (held_in act object a rows) 1 ≤ held_in act object a (lower_row u object rows)
lowered_keeps act object u a [] = omega arith
lowered_keeps act object u a (r ∷ rs) = by (lowered_keeps act object u a rs) (is_row_of object u r)
  where
    by : min (held_in act object a rs) 1 ≤ held_in act object a (lower_row u object rs) → (b : Bool) →
        min (max (part_of act object a r) (held_in act object a rs)) 1
        ≤ max (part_of act object a (cond b (record r { mode = mode.Read }) r)) (held_in act object a (lower_row u object rs))
    by rest true = let k = part_lowered act object a r in omega (arith, k, rest)
    by rest false = omega (arith, rest)

-- and another action's locks stay
pub lowered_others : (act : Acts) (object u : Uid) (a : Act) (rows : List Row) → same (act u) a ≡ false →
    held_in act object a rows ≤ held_in act object a (lower_row u object rows)
lowered_others act object u a [] other = omega arith
lowered_others act object u a (r ∷ rs) other = by (lowered_others act object u a rs other) (is_row_of object u r) refl
  where
    none : is_row_of object u r ≡ true → part_of act object a r ≡ 0
    none is =
        let both = and_parts (uid_eq r.object object) (uid_eq (last_uid r.holder) u) is in
        let off : counts act object a r ≡ false = (λ i. both.0 i && same (act (uid_is (last_uid r.holder) u both.1 i)) a) ∙ other in
        ap (λ b. cond b (strength r.mode) 0) off

    by : held_in act object a rs ≤ held_in act object a (lower_row u object rs) → (b : Bool) → is_row_of object u r ≡ b →
        max (part_of act object a r) (held_in act object a rs)
        ≤ max (part_of act object a (cond b (record r { mode = mode.Read }) r)) (held_in act object a (lower_row u object rs))
    by rest true is = let k = none is in omega (arith, k, rest)
    by rest false is = omega (arith, rest)

-- ---- locks that go

-- a row that isn't dropped is held by somebody who doesn't stand below the action
part_dropped : (act : Acts) (object u : Uid) (a : Act) (r : Row) → (is_on r.holder u ≡ true → on (act (last_uid r.holder)) (act u) ≡ true) →
    is_on r.holder u ≡ true → on a (act u) ≡ false → part_of act object a r ≡ 0
part_dropped act object u a r along is off = by (counts act object a r) refl
  where
    by : (b : Bool) → counts act object a r ≡ b → cond b (strength r.mode) 0 ≡ 0
    by true c =
        let here : act (last_uid r.holder) ≡ a = same_is (act (last_uid r.holder)) a
        (let both = and_parts (uid_eq r.object object) (same (act (last_uid r.holder)) a) c in both.1) in
        absurd (cc (sym (along is) ∙ ap (λ b. on b (act u)) here ∙ off))
    by false c = refl

-- whose holders stand in the machine as they do in the rows
abbrev pub AreAlong : Acts → Uid → List Row → Type 0
AreAlong act u [] = ⊤
AreAlong act u (r ∷ rs) = (is_on r.holder u ≡ true → on (act (last_uid r.holder)) (act u) ≡ true) × AreAlong act u rs

-- who doesn't stand below the action keeps what it has
pub dropped_others : (act : Acts) (object u : Uid) (a : Act) (rows : List Row) → AreAlong act u rows → on a (act u) ≡ false →
    held_in act object a rows ≤ held_in act object a (drop_rows u rows)
dropped_others act object u a [] along off = omega arith
dropped_others act object u a (r ∷ rs) along off = by (dropped_others act object u a rs along.1 off) (is_on r.holder u) refl
  where
    by : held_in act object a rs ≤ held_in act object a (drop_rows u rs) → (b : Bool) → is_on r.holder u ≡ b →
        max (part_of act object a r) (held_in act object a rs) ≤ held_in act object a (cond (not b) (r ∷ drop_rows u rs) (drop_rows u rs))
    by rest true is = let k = part_dropped act object u a r along.0 is off in omega (arith, k, rest)
    by rest false is = omega (arith, rest)

-- the machine drops what is held below the action
pub dropped_seen : (act : Acts) (object u : Uid) (rows : List Row) (seen : machine.Rows) → AreAlong act u rows →
    SeesRows act object rows seen → SeesRows act object (drop_rows u rows) (machine.drop_below seen (act u))
dropped_seen act object u rows seen along old a = by (on a (act u)) refl
  where
    by : (b : Bool) → on a (act u) ≡ b → cond b 0 (seen a) ≤ held_in act object a (drop_rows u rows)
    by true is = omega arith
    by false is = let i = old a in let j = dropped_others act object u a rows along is in omega (arith, i, j)
