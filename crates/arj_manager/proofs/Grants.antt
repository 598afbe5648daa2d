-- A lock that an action has already isn't granted again.
use Rattle.std.proofs.Common.{◌≡◌, ℕ, Bool, true, false, not, ◌&&◌, ◌||◌, nat_le, nat_lt, List, [], ◌∷◌, Some, cond, ap, sym, ◌∙◌, refl}
use Rattle.std.proofs.Common.{arith, find}
use Rattle.std.specs.Bool.{then_some}
use Rattle.std.specs.Option.{option_map}
use Rattle.std.proofs.lemmas.Bool.{or_parts, and_parts}
use Rattle.std.proofs.lemmas.Bool.Decides.{nat_tests}
use Rattle.arj_base.specs.declared.mode.Mode.{Mode}
use Rattle.arj_base.specs.declared.uid.Uid.{Uid}
use Rattle.arj_base.specs.Mode.{mode_code, stronger}
use Rattle.arj_base.specs.Rows.{Row, last_uid, is_row_of, has_row, grant_row, mode_of}
use Rattle.arj_base.specs.Uid.{uid_eq}
use Rattle.arj_base.proofs.Uids.{uid_is}
use Rattle.arj_lock.specs.Exclusion.{IsOneEach}
use Rattle.arj_lock.specs.Requests.{is_rise}
use Rattle.arj_protocol.specs.Copy.{is_granted, rows_asked, grant_lines}
use Rattle.arj_protocol.specs.Effect.{Say}
use Rattle.arj_protocol.specs.Words.body
use Rattle.arj_manager.specs.Ran.{grant_said}

or_false : (b : Bool) → (b || false) ≡ b
or_false true = refl
or_false false = refl

-- where the action has no row of the object it has it in no mode
none_granted : (x act : Uid) (m : Mode) (rows : List Row) → has_row x act rows ≡ false → is_granted x act m rows ≡ false
none_granted x act m [] none = refl
none_granted x act m (r ∷ rows) none =
    let p = or_parts (is_row_of x act r) (has_row x act rows) none in
    λ i. (p.0 i && nat_le (mode_code m) (mode_code r.mode)) || none_granted x act m rows p.1 i

-- behind the action's row of the object it has it in no mode
none_behind : (x act : Uid) (m : Mode) (r : Row) (rows : List Row) → has_row r.object (last_uid r.holder) rows ≡ false →
    is_row_of x act r ≡ true → is_granted x act m rows ≡ false
none_behind x act m r rows one own =
    let p = and_parts (uid_eq r.object x) (uid_eq (last_uid r.holder) act) own in
    let object : r.object ≡ x = uid_is r.object x p.0 in
    let holder : last_uid r.holder ≡ act = uid_is (last_uid r.holder) act p.1 in
    none_granted x act m rows ((λ i. has_row (sym object i) (sym holder i) rows) ∙ one)

less_is : (a b : ℕ) → nat_lt a b ≡ not (nat_le b a)
less_is a b = grind (arith, nat_tests)

-- A request is a rise exactly where the action hasn't got the object in this mode.
rise_is : (x act : Uid) (m : Mode) (rows : List Row) → IsOneEach rows → is_rise (mode_of x act rows) m ≡ not (is_granted x act m rows)
rise_is x act m [] one = refl
rise_is x act m (r ∷ rows) one = by (is_row_of x act r) (none_behind x act m r rows one.0) (rise_is x act m rows one.1)
  where
    by : (b : Bool) → (b ≡ true → is_granted x act m rows ≡ false) → is_rise (mode_of x act rows) m ≡ not (is_granted x act m rows)
        → is_rise (option_map (λ (row : Row). row.mode) (cond b (Some r) (find (is_row_of x act) rows))) m ≡ not ((b && nat_le (mode_code m) (mode_code r.mode)) || is_granted x act m rows)
    by true none ih =
        less_is (mode_code r.mode) (mode_code m)
        ∙ (ap not (sym (or_false (nat_le (mode_code m) (mode_code r.mode)))) ∙ (λ i. not (nat_le (mode_code m) (mode_code r.mode) || sym (none refl) i)))
    by false none ih = ih

granted_stays : (new : Row) (rows : List Row) → IsOneEach rows → is_granted new.object (last_uid new.holder) new.mode rows ≡ true →
    grant_row new rows ≡ rows
granted_stays new [] one granted = absurd (cc granted)
granted_stays new (r ∷ rows) one granted =
    by (is_row_of new.object (last_uid new.holder) r) (none_behind new.object (last_uid new.holder) new.mode r rows one.0) granted (granted_stays new rows one.1)
  where
    by : (b : Bool) → (b ≡ true → is_granted new.object (last_uid new.holder) new.mode rows ≡ false)
        → ((b && nat_le (mode_code new.mode) (mode_code r.mode)) || is_granted new.object (last_uid new.holder) new.mode rows) ≡ true
        → (is_granted new.object (last_uid new.holder) new.mode rows ≡ true → grant_row new rows ≡ rows)
        → cond b (record r { mode = stronger r.mode new.mode } ∷ rows) (r ∷ grant_row new rows) ≡ r ∷ rows
    by true none granted ih =
        let strong : nat_le (mode_code new.mode) (mode_code r.mode) ≡ true =
        sym (or_false (nat_le (mode_code new.mode) (mode_code r.mode))) ∙ ((λ i. nat_le (mode_code new.mode) (mode_code r.mode) || sym (none refl) i) ∙ granted) in
        λ i. record r { mode = cond (strong i) r.mode new.mode } ∷ rows
    by false none granted ih = ap (λ rs. r ∷ rs) (ih granted)

-- a grant is what the protocol makes of a request that meets no lock
pub asked_rows : (new : Row) (rows : List Row) → IsOneEach rows → grant_row new rows ≡ rows_asked new rows
asked_rows new rows one = by (is_granted new.object (last_uid new.holder) new.mode rows) (granted_stays new rows one)
  where
    by : (b : Bool) → (b ≡ true → grant_row new rows ≡ rows) → grant_row new rows ≡ cond b rows (grant_row new rows)
    by true stays = stays refl
    by false stays = refl

-- and a rise is what it says
pub asked_lines : (n : ℕ) (new : Row) (rows : List Row) (rose : Bool) → IsOneEach rows →
    rose ≡ is_rise (mode_of new.object (last_uid new.holder) rows) new.mode
    → grant_lines n new rows ≡ grant_said n (last_uid new.holder) new.object (then_some rose new.mode)
asked_lines n new rows rose one is =
    by (is_granted new.object (last_uid new.holder) new.mode rows) rose (is ∙ rise_is new.object (last_uid new.holder) new.mode rows one)
  where
    by : (b rose : Bool) → rose ≡ not b
        → cond b [] (Say (body.Granted n (last_uid new.holder) new.object new.mode) ∷ []) ≡ grant_said n (last_uid new.holder) new.object (then_some rose new.mode)
    by true rose is = λ i. grant_said n (last_uid new.holder) new.object (then_some (sym is i) new.mode)
    by false rose is = λ i. grant_said n (last_uid new.holder) new.object (then_some (sym is i) new.mode)
