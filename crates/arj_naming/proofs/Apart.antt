-- An action that hasn't touched an object: its end leaves the object as it is, and it stays apart from it while others act.
use Rattle.std.proofs.Common.{◌≡◌, ◌∙◌, ◌||◌, ◌&&◌, ◌⊎◌, inl, inr, ℕ, Bool, true, false, cond, not, List, [], ◌∷◌, filter, refl, sym, ap}
use Rattle.std.proofs.Common.{subst, Option, Some, None}
use Rattle.std.proofs.lemmas.Bool.{false_from_ne_true, or_parts}
use Rattle.std.specs.BTreeMap.{is_at}
use Rattle.std.specs.List.{list_any}
use Rattle.std.specs.Prelude.{option_map}
use Rattle.std.specs.Ordering.{is_eq}
use Rattle.arj_base.specs.Rows.{Row, front, grant_row, has_any, has_row, is_held_by, is_on, is_row_of, last_uid, lower_row, pass_rows}
use Rattle.arj_base.specs.Rows.{strengthened}
use Rattle.arj_base.specs.Mode.{stronger}
use Rattle.arj_base.specs.Order.{uid_order}
use Rattle.arj_base.proofs.Uids.{uid_is}
use Rattle.arj_lock.proofs.Leaves.{grant_any, lower_any}
use Rattle.arj_lock.proofs.Members.{In, in_from}
use Rattle.arj_lock.proofs.OneEach.{any_same, none_in}
use Rattle.arj_lock.proofs.PassLeaves.{came_by, pass_fewer}
use Rattle.arj_lock.proofs.Passes.{nothing_passes}
use Rattle.arj_lock.proofs.Paths.{heir_is, on_front, on_last}
use Rattle.arj_lock.specs.Passing.{CameBy, passed_on, stayed}
use Rattle.arj_law_store.proofs.store.Keys.{put_other, tied_is, with_on}
use Rattle.arj_protocol.specs.Ask.{top_of}
use Rattle.arj_protocol.specs.Copy.{is_granted}
use Rattle.arj_protocol.specs.Effect.{reply, void}
use Rattle.arj_protocol.specs.Named.{Counted, Live, Made, Named, bind_call, bind_made, bind_named, conflict_on, end_named, entry_row}
use Rattle.arj_protocol.specs.Named.{hello_named, in_use, is_lowered, live_above, live_asked, locked, lower_lines, lowered, made_above}
use Rattle.arj_protocol.specs.Named.{make_asked, note_made, note_named, note_other, include_asked}
use Rattle.arj_protocol.specs.Naming.{loses}
use Rattle.arj_protocol.specs.Order.{at_uid, binding_eq, without_uid}
use Rattle.arj_protocol.specs.Words.{Binding, End, Entry, Mode, Path, Uid, entry, uid_eq}
use Rattle.arj_protocol.specs.Words.ending
use Rattle.arj_protocol.specs.Words.mode
use Rattle.arj_protocol.specs.Words.recorded
use Rattle.arj_naming.specs.Bound.{made_in}
use Rattle.arj_naming.specs.Touched.{IsApart, IsOff}
use Rattle.arj_protocol.specs.Order.{is_binding}

never : {P : Type 0} (b : Bool) → b ≡ true → b ≡ false → P
never b holds fails = let no_way : true ≡ false = sym holds ∙ fails in cc

and_false : (b : Bool) → (b && false) ≡ false
and_false true = refl
and_false false = refl

-- ---- what isn't there isn't taken out, and isn't there afterwards

none_out : {X : Type 0} (p : X → Bool) (xs : List X) → list_any p xs ≡ false → filter (λ x. not (p x)) xs ≡ xs
none_out p [] none = refl
none_out p (x ∷ xs) none =
    let e = or_parts (p x) (list_any p xs) none in (λ i. cond (not (e.0 i)) (x ∷ filter (λ y. not (p y)) xs) (filter (λ y. not (p y)) xs)) ∙ ap (λ ys. x ∷ ys) (none_out p xs e.1)

none_left : {X : Type 0} (p q : X → Bool) (xs : List X) → list_any p xs ≡ false → list_any p (filter q xs) ≡ false
none_left p q [] none = refl
none_left p q (x ∷ xs) none = let e = or_parts (p x) (list_any p xs) none in by (q x) e.0 (none_left p q xs e.1)
  where
    by : (b : Bool) → p x ≡ false → list_any p (filter q xs) ≡ false → list_any p (cond b (x ∷ filter q xs) (filter q xs)) ≡ false
    by true here rest = (λ i. here i || list_any p (filter q xs)) ∙ rest
    by false here rest = rest

not_made : (u : Uid) (m : List (Uid × Made)) → at_uid u m ≡ None → without_uid u m ≡ m
not_made u [] none = refl
not_made u (d ∷ m) none = by (is_at (uid_order u) d.0) none (not_made u m)
  where
    by : (b : Bool) → cond b (Some d.1) (at_uid u m) ≡ None → (at_uid u m ≡ None → without_uid u m ≡ m) →
        cond b m (d ∷ without_uid u m) ≡ d ∷ m
    by true is rest = cc
    by false is rest = ap (λ es. d ∷ es) (rest is)

still_not_made : (u v : Uid) (m : List (Uid × Made)) → at_uid v m ≡ None → at_uid v (without_uid u m) ≡ None
still_not_made u v [] none = refl
still_not_made u v (d ∷ m) none = by (is_at (uid_order u) d.0) (is_at (uid_order v) d.0) refl none (still_not_made u v m)
  where
    by : (a b : Bool) → is_at (uid_order v) d.0 ≡ b → cond b (Some d.1) (at_uid v m) ≡ None →
        (at_uid v m ≡ None → at_uid v (without_uid u m) ≡ None) → at_uid v (cond a m (d ∷ without_uid u m)) ≡ None
    by a true test is rest = cc
    by true false test is rest = is
    by false false test is rest = (λ i. cond (test i) (Some d.1) (at_uid v (without_uid u m))) ∙ rest is

-- ---- rows

pub none_each : (q : Row → Bool) (rows : List Row) → ((r : Row) → In r rows → q r ≡ false) → list_any q rows ≡ false
none_each q [] h = refl
none_each q (r ∷ rows) h = (λ i. h r (inl refl) i || list_any q rows) ∙ none_each q rows (λ s j. h s (inr j))

strong_holder : (r : Row) (o : Option Row) → (strengthened r o).holder ≡ r.holder
strong_holder r None = refl
strong_holder r (Some s) = refl

held_passed : (u v : Uid) (rows : List Row) → has_any v rows ≡ false → list_any (is_held_by v) rows ≡ false →
    list_any (is_held_by v) (pass_rows u rows) ≡ false
held_passed u v rows off held = none_each (is_held_by v) (pass_rows u rows) (λ y i. by y (came_by u rows y i))
  where
    by : (y : Row) → CameBy u rows y → is_held_by v y ≡ false
    by y (stayed r there other is) =
        ap (λ us. uid_eq (last_uid us) v) (ap (λ (q : Row). q.holder) is ∙ strong_holder r _) ∙ none_in (is_held_by v) r rows held (in_from r rows there)
    by y (passed_on r there own heir parent free is) =
        ap (λ us. uid_eq (last_uid us) v) (ap (λ (q : Row). q.holder) is) ∙ false_from_ne_true (uid_eq (last_uid (front r.holder)) v) (λ same.
        let on : is_on (front r.holder) v ≡ true =
        subst (λ w. is_on (front r.holder) w ≡ true) (uid_is (last_uid (front r.holder)) v same) (on_last (front r.holder) (heir_is r.holder heir parent).1) in
        never (is_on r.holder v) (on_front r.holder v on) (none_in (λ (q : Row). is_on q.holder v) r rows off (in_from r rows there)))

held_granted : (v : Uid) (new : Row) (rows : List Row) → is_held_by v new ≡ false → list_any (is_held_by v) rows ≡ false →
    list_any (is_held_by v) (grant_row new rows) ≡ false
held_granted v new [] off none = λ i. off i || false
held_granted v new (r ∷ rows) off none =
    let e = or_parts (is_held_by v r) (list_any (is_held_by v) rows) none in by (is_row_of new.object (last_uid new.holder) r) (held_granted v new rows off e.1) e.0
  where
    by : (b : Bool) → list_any (is_held_by v) (grant_row new rows) ≡ false → is_held_by v r ≡ false →
        list_any (is_held_by v) (cond b (record r { mode = stronger r.mode new.mode } ∷ rows) (r ∷ grant_row new rows)) ≡ false
    by true rest here = none
    by false rest here = (λ i. here i || list_any (is_held_by v) (grant_row new rows)) ∙ rest

lowered_row : (top object v : Uid) (r : Row) →
    is_held_by v (cond (is_row_of object top r) (record r { mode = mode.Read }) r) ≡ is_held_by v r
lowered_row top object v r = by (is_row_of object top r)
  where
    by : (b : Bool) → is_held_by v (cond b (record r { mode = mode.Read }) r) ≡ is_held_by v r
    by true = refl
    by false = refl

-- no row of it goes where it is on no path
pub no_loser : (u act : Uid) (rows : List Row) → has_any u rows ≡ false → list_any (loses u act) rows ≡ false
no_loser u act [] off = refl
no_loser u act (r ∷ rows) off =
    let e = or_parts (is_on r.holder u) (has_any u rows) off in
    (λ i. (is_held_by act r && e.0 i) || list_any (loses u act) rows) ∙ ((λ i. and_false (is_held_by act r) i || list_any (loses u act) rows) ∙ no_loser u act rows e.1)

-- ---- the ends of actions

-- its own end leaves the object as it is
pub apart_ended : (u : Uid) (e : End) (o : Named) → IsApart u o → end_named u e o ≡ o
apart_ended u ending.Commit o apart =
    λ i. record o {
      made = not_made u o.made apart.made i;
      asked = none_out (λ w. uid_eq w u) o.asked apart.asked i;
      rows =
          nothing_passes u o.rows apart.held i;
    }
apart_ended u ending.Abort o apart =
    λ i. record o {
      made = not_made u o.made apart.made i;
      asked = none_out (λ w. uid_eq w u) o.asked apart.asked i;
      rows =
          none_out (λ (r : Row). is_on r.holder u) o.rows apart.rows i;
    }

-- and the end of another leaves it apart
pub apart_later : (u v : Uid) (e : End) (o : Named) → IsApart v o → IsApart v (end_named u e o)
apart_later u v ending.Commit o apart = record {
  made = still_not_made u v o.made apart.made;
  asked = none_left (λ w. uid_eq w v) (λ w. not (uid_eq w u)) o.asked apart.asked;
  rows = false_from_ne_true (has_any v (pass_rows u o.rows)) (λ some. never (has_any v o.rows) (pass_fewer u o.rows v some) apart.rows);
  held = held_passed u v o.rows apart.rows apart.held;
}
apart_later u v ending.Abort o apart = record {
  made = still_not_made u v o.made apart.made;
  asked = none_left (λ w. uid_eq w v) (λ w. not (uid_eq w u)) o.asked apart.asked;
  rows = none_left (λ (r : Row). is_on r.holder v) (λ (r : Row). not (is_on r.holder u)) o.rows apart.rows;
  held = none_left (is_held_by v) (λ (r : Row). not (is_on r.holder u)) o.rows apart.held;
}

-- a server that is up again changes nothing of it
pub apart_told : (v : Uid) (node inc : ℕ) (o : Named) → IsApart v o → IsApart v (hello_named node inc o)
apart_told v node inc o apart = record { made = apart.made; asked = apart.asked; rows = apart.rows; held = apart.held }

-- ---- the calls of actions that it isn't on the path of

apart_locked : (v : Uid) (x : ℕ) (p : Path) (m : Mode) (o : Named) → IsOff v p → IsApart v o → IsApart v (locked x p m o)
apart_locked v x p m o off apart =
    record {
      made = apart.made;
      asked = apart.asked;
      rows = no_row (is_granted new.object (last_uid new.holder) new.mode o.rows);
      held =
          not_held (is_granted new.object (last_uid new.holder) new.mode o.rows);
    }
  where
    new : Row
    new = entry_row x p m

    no_row : (b : Bool) → has_any v (cond b o.rows (grant_row new o.rows)) ≡ false
    no_row true = apart.rows
    no_row false =
        grant_any new o.rows v ∙ (λ i. apart.rows i || (not (has_row new.object (last_uid new.holder) o.rows) && off.on i)) ∙ and_false (not (has_row new.object (last_uid new.holder) o.rows))

    not_held : (b : Bool) → list_any (is_held_by v) (cond b o.rows (grant_row new o.rows)) ≡ false
    not_held true = apart.held
    not_held false = held_granted v new o.rows off.top apart.held

pub apart_excluded : (v : Uid) (x : ℕ) (p : Path) (o : Named) → IsOff v p → IsApart v o → IsApart v (locked x p mode.Exclude o)
apart_excluded v x p o off apart = apart_locked v x p mode.Exclude o off apart

-- another's test fails
other_uid : (u v : Uid) → uid_eq u v ≡ false → is_eq (uid_order v u) ≡ false
other_uid u v other = tied_is v u ∙ other

module _ (v : Uid) (inc x : ℕ) (p : Path) (e : Entry) (c : Counted) (off : IsOff v p) (apart : IsApart v c.named) where
  include_apart : (r : Option Row) → IsApart v (include_asked inc x p e c r).part.named
  include_apart (Some r) = apart
  include_apart None = let o = apart_locked v x p mode.Write c.named off apart in
      record { made = o.made; asked = with_on c.named.asked (top_of p) v ∙ (λ i. apart.asked i || off.top i); rows = o.rows; held = o.held }

  live_apart : (l : Live) (r : Option Row) → IsApart v (live_asked inc x p e c l r).part.named
  live_apart l (Some r) = apart
  live_apart l None = apart_locked v x p mode.Read c.named off apart

  made_apart : (m : Option Made) → IsApart v (bind_made inc x p e c m).part.named
  made_apart (Some m) = apart_locked v x p mode.Write c.named off apart
  made_apart None = let o = apart_locked v x p mode.Write c.named off apart in
      record {
        made = put_other (top_of p) v _ c.named.made (other_uid (top_of p) v off.top) ∙ apart.made;
        asked = o.asked;
        rows =
            o.rows;
        held = o.held;
      }

  make_apart : (avoid : Binding) (r : Option Row) → IsApart v (make_asked inc x p avoid e c r).part.named
  make_apart avoid (Some r) = apart
  make_apart avoid None = made_apart (made_above avoid (at_uid (top_of p) c.named.made))

  call_apart : (avoid : Binding) (l : Option Live) → IsApart v (bind_call inc x p avoid e c l).part.named
  call_apart avoid (Some l) = live_apart l (conflict_on x p mode.Read c.named)
  call_apart avoid None = make_apart avoid (conflict_on x p mode.Write c.named)

  pub apart_bound : (include : Bool) (avoid : Binding) → IsApart v (bind_named inc x p include avoid e c).part.named
  apart_bound true avoid = include_apart (conflict_on x p mode.Write c.named)
  apart_bound false avoid = call_apart avoid (live_above avoid c.named.live)

module _ (v : Uid) (x : ℕ) (top : Uid) (b : Binding) (inc : ℕ) (o : Named) (apart : IsApart v o) where
  used : (m : Made) → at_uid top o.made ≡ Some m → IsApart v (in_use top m inc o)
  used m at = record {
    made = by (uid_eq top v) refl;
    asked = apart.asked;
    rows = apart.rows;
    held = apart.held;
  }
    where
      by : (same : Bool) → uid_eq top v ≡ same → at_uid v (in_use top m inc o).made ≡ None
      by true is = let never : None ≡ Some m = sym apart.made ∙ ap (λ w. at_uid w o.made) (sym (uid_is top v is)) ∙ at in cc
      by false other = put_other top v _ o.made (other_uid top v other) ∙ apart.made

  lowered_apart : (n : Named) → IsApart v n → IsApart v (lowered x top n)
  lowered_apart n is = by (is_lowered x top n)
    where
      by : (c : Bool) → IsApart v (cond c (record n { rows = lower_row top (entry x) n.rows }) n)
      by true = record {
        made = is.made;
        asked = is.asked;
        rows = lower_any top (entry x) n.rows v ∙ is.rows;
        held = any_same (is_held_by v) (is_held_by v) (λ row. cond (is_row_of (entry x) top row) (record row {
          mode =
              mode.Read;
        }) row) n.rows (lowered_row top (entry x) v) ∙ is.held;
      }
      by false = is

  note_made_apart : (m : Made) → at_uid top o.made ≡ Some m → (recorded : Bool) → m.recorded ≡ recorded →
      IsApart v (note_made x top inc o m).part
  note_made_apart m at true is = subst (IsApart v) (λ i. (note_made x top inc o (record m { recorded = sym is i })).part) apart
  note_made_apart m at false is =
      subst (IsApart v) (λ i. (note_made x top inc o (record m {
        recorded =
            sym is i;
      })).part) (lowered_apart (in_use top (record m {
        recorded =
            false;
      }) inc o) (used (record m { recorded = false }) (at ∙ (λ i. Some (record m { recorded = is i })))))

  other_apart : (m : Option Made) → at_uid top o.made ≡ m → IsApart v (note_other x top b inc o m).part
  other_apart None at = apart
  other_apart (Some m) at = by (binding_eq b m.binding) refl
    where
      by : (c : Bool) → binding_eq b m.binding ≡ c → IsApart v (note_other x top b inc o (Some m)).part
      by true is = rw is (note_made_apart m at m.recorded refl)
      by false is = rw is apart

  pub apart_noted : IsApart v (note_named x top b inc o).part
  apart_noted = by (is_binding b o.recorded) refl
    where
      by : (c : Bool) → is_binding b o.recorded ≡ c → IsApart v (note_named x top b inc o).part
      by true is = rw is apart
      by false is = rw is (other_apart (at_uid top o.made) refl)

-- ---- what is live afterwards

-- a Record makes live the binding that was made for its top
module _ (x : ℕ) (top : Uid) (b : Binding) (inc : ℕ) (o : Named) where
  abbrev IsKnownLive : Live → Type 0
  IsKnownLive l = (o.live ≡ Some l) ⊎ (made_in top (Some o) ≡ Some l.server)

  lowered_live : (n : Named) → (lowered x top n).live ≡ n.live
  lowered_live n = by (is_lowered x top n)
    where
      by : (c : Bool) → (cond c (record n { rows = lower_row top (entry x) n.rows }) n).live ≡ n.live
      by true = refl
      by false = refl

  note_made_live : (m : Made) → at_uid top o.made ≡ Some m → (recorded : Bool) → m.recorded ≡ recorded → (l : Live) →
      (note_made x top inc o m).part.live ≡ Some l → IsKnownLive l
  note_made_live m at true is l live =
      inl ((λ i. (cond (sym is i) (reply o recorded.Yes) (record {
        part = lowered x top (in_use top m inc o);
        outs =
            lower_lines x top o;
        reply = Some recorded.Yes;
      })).part.live) ∙ live)
  note_made_live m at false is l live =
      let found : Some (record { binding = m.binding; server = m.server; inc = inc }) ≡ Some l =
      sym (lowered_live (in_use top m inc o)) ∙ ((λ i. (cond (sym is i) (reply o recorded.Yes) (record {
        part =
            lowered x top (in_use top m inc o);
        outs = lower_lines x top o;
        reply = Some recorded.Yes;
      })).part.live) ∙ live) in
      inr (ap (option_map (λ (n : Made). n.server)) at ∙ ap (option_map (λ (k : Live). k.server)) found)

  other_live : (m : Option Made) → at_uid top o.made ≡ m → (l : Live) → (note_other x top b inc o m).part.live ≡ Some l → IsKnownLive l
  other_live None at l live = inl live
  other_live (Some m) at l live = by (binding_eq b m.binding) refl
    where
      by : (c : Bool) → binding_eq b m.binding ≡ c → IsKnownLive l
      by true is = note_made_live m at m.recorded refl l ((λ i. (cond (sym is i) (note_made x top inc o m) (void o)).part.live) ∙ live)
      by false is = inl ((λ i. (cond (sym is i) (note_made x top inc o m) (void o)).part.live) ∙ live)

  pub noted_live : (l : Live) → (note_named x top b inc o).part.live ≡ Some l → IsKnownLive l
  noted_live l live = by (is_binding b o.recorded) refl
    where
      by : (c : Bool) → is_binding b o.recorded ≡ c → IsKnownLive l
      by true is = inl ((λ i. (cond (sym is i) (reply o recorded.Yes) (note_other x top b inc o (at_uid top o.made))).part.live) ∙ live)
      by false is =
          other_live (at_uid top o.made) refl l ((λ i. (cond (sym is i) (reply o recorded.Yes) (note_other x top b inc o (at_uid top o.made))).part.live) ∙ live)

-- and a Bind makes none live
module _ (inc x : ℕ) (p : Path) (e : Entry) (c : Counted) where
  same_made : (m : Option Made) → (bind_made inc x p e c m).part.named.live ≡ c.named.live
  same_made (Some m) = refl
  same_made None = refl

  same_make : (avoid : Binding) (r : Option Row) → (make_asked inc x p avoid e c r).part.named.live ≡ c.named.live
  same_make avoid (Some r) = refl
  same_make avoid None = same_made (made_above avoid (at_uid (top_of p) c.named.made))

  same_live : (l : Live) (r : Option Row) → (live_asked inc x p e c l r).part.named.live ≡ c.named.live
  same_live l (Some r) = refl
  same_live l None = refl

  same_call : (avoid : Binding) (l : Option Live) → (bind_call inc x p avoid e c l).part.named.live ≡ c.named.live
  same_call avoid (Some l) = same_live l (conflict_on x p mode.Read c.named)
  same_call avoid None = same_make avoid (conflict_on x p mode.Write c.named)

  same_include : (r : Option Row) → (include_asked inc x p e c r).part.named.live ≡ c.named.live
  same_include (Some r) = refl
  same_include None = refl

  pub bound_live : (include : Bool) (avoid : Binding) → (bind_named inc x p include avoid e c).part.named.live ≡ c.named.live
  bound_live true avoid = same_include (conflict_on x p mode.Write c.named)
  bound_live false avoid = same_call avoid (live_above avoid c.named.live)
