-- A lock that a table has was granted by a line of the node's present life; and whoever holds one on an entry has entered it for its root.
use Rattle.arj_law_parts.proofs.Words
use Words.{◌≡◌, ◌⊎◌, ◌≤◌, ◌∙◌, ◌+◌, ◌==◌, ◌++◌, ◌&&◌, ◌||◌, ℕ, Bool, true, false, if◌then◌else◌, List, [], ◌∷◌, length, take, Option, Some}
use Words.{None, refl, sym, ap, subst, inl, inr, append-nil, append_assoc, and_parts, eqb-true, eq-eqb, list_any, ⊎_elim}
use Words.{in_filter, in_map, in_filter_map, in_from, grant_each, is_held_by, handed_on, before_last, passed, strengthened, renamed}
use Words.{find, goes_to, front, first_uid, grant_row, has_row, is_on, is_row_of, last_uid, lower_row, object, entry, uid_eq, uid_is, uid_same}
use Words.{arith, name, not, option_map, Binding, Body, Contains, End, In, Kind, Line, Mode, Part, Row, Start, Uid, nat_le, mode_code, uids_of}
use Words.body
use Words.ending
use Words.kind
use Words.mode
use Rattle.arj_base.specs.Rows.{close_rows}
use Rattle.arj_law.proofs.Reading.{read-append}
use Rattle.arj_law_parts.proofs.parts.Begun.{on_more, one_action, path_some}
use Rattle.arj_law_parts.specs.parts.Actions.{Stands}
use Rattle.arj_law_runs.proofs.journal.{Closed.one_act, Ties.on_path}
use Rattle.arj_law_runs.specs.journal.Right.{has_act}
use Rattle.arj_law_serial.proofs.Terms
use Terms.{Act, Action, AreAlike, AreBegun, AreDistinct, act_of, acts, acts_after, acts_from, acts_more, path, path_by, path_in, table, table_from}
use Terms.{table_step, uids, up_of}
use Rattle.arj_law_serial.proofs.holding.Lines.{acts_on, ups_on}
use Rattle.arj_law_serial.proofs.order.Paths.{found}
use Rattle.arj_law_serial.proofs.tables.Holders.{path_fits}
use Rattle.arj_model.specs.Actions.{Placed, read, root_in}
use Rattle.arj_model.specs.CauseAnswers.{has_lock}
use Rattle.arj_model.specs.CauseCopies.{Entering, entering_of, enterings, has_entered_in}
use Rattle.arj_model.specs.Refusals.{inc_from, inc_step, incarnation, is_root}
use Rattle.arj_model.specs.Table.{granted_row, is_entry, is_in_part, tell_rows}
use Rattle.arj_law_cause.proofs.confirm.Joined.{early_before}
use Rattle.arj_law_cause.specs.rows.Early.{IsEarly}
use Rattle.arj_law_cause.proofs.rows.Holders.{alike_from, any_later, one_passes}
use Rattle.arj_law_cause.proofs.rows.Paths.{label_path}
use Rattle.std.proofs.Math.Seq.{take-append_seam}

none_is : {A P : Type 0} {x : A} → None ≡ Some x → P
none_is {A} {P} {x} is = let no_way : ◌≡◌ {A = Option A} None (Some x) = is in absurd (cc no_way)

some_is : {A : Type 0} {a b : A} → Some a ≡ Some b → a ≡ b
some_is {A} {a} {b} is = let k : ◌≡◌ {A = Option A} (Some a) (Some b) = is in cc

never : {P : Type 0} {b : Bool} → b ≡ true → b ≡ false → P
never holds fails = let no_way : true ≡ false = sym holds ∙ fails in absurd (cc no_way)

-- ---- where a row comes from

-- a holder that is the action alone, or the first part of its path, where it has one
abbrev pub IsFrom : List Uid → Uid → List Uid → Type 0
IsFrom holder u path = (holder ≡ u ∷ []) ⊎ ((more : List Uid) × (path ≡ holder ++ more) × (holder ≡ [] → path ≡ []))

-- A line granted the lock on the object at node 1 in its present incarnation, to an action on whose path the holder stands.
pub record IsOrigin (st : Start) (ls : List Line) (o : Uid) (holder : List Uid) : Type 0 where
  pub before : List Line
  pub event : ℕ
  pub act : Uid
  pub mode : Mode
  pub after : List Line
  pub are : ls ≡ before ++ record { event = event; body = body.Granted 1 act o mode } ∷ after
  pub inc : incarnation st before 1 ≡ incarnation st ls 1
  pub from : IsFrom holder act (uids (path_by (acts before) act))

inc_more : (j i : ℕ) (ls : List Line) (l : Line) → inc_from j i (ls ++ l ∷ []) ≡ inc_step j l.body (inc_from j i ls)
inc_more j i [] l = refl
inc_more j i (m ∷ ls) l = inc_more j (inc_step j m.body i) ls l

-- a path is what stands before its last Uid, and that
whole : (u : Uid) (us : List Uid) → u ∷ us ≡ front (u ∷ us) ++ last_uid (u ∷ us) ∷ []
whole u [] = refl
whole u (w ∷ us) = ap (λ ws. u ∷ ws) (whole w us)

-- a holder that passes its lock on
passes_on : (us : List Uid) (u h : Uid) (p : List Uid) → before_last us ≡ Some h → IsFrom us u p → IsFrom (front us) u p
passes_on us u h p heir (inl one) = none_is (sym (ap before_last one) ∙ heir)
passes_on [] u h p heir (inr f) = none_is heir
passes_on (w ∷ []) u h p heir (inr f) = none_is heir
passes_on (w ∷ v ∷ ws) u h p heir (inr f) = inr (
  last_uid (v ∷ ws) ∷ f.0,
  f.1 ∙ ap (λ vs. vs ++ f.0) (whole w (v ∷ ws)) ∙ append_assoc (front (w ∷ v ∷ ws)) (last_uid (v ∷ ws) ∷ []) f.0,
  λ none. let no_way : ◌≡◌ {A = List Uid} (w ∷ front (v ∷ ws)) [] = none in absurd (cc no_way),
)

module _ (st : Start) where
  -- a line comes
  module _ (pre : List Line) (e : ℕ) where
    abbrev With : Body → List Line
    With b = pre ++ record { event = e; body = b } ∷ []

    kept : (b : Body) → ((i : ℕ) → inc_step 1 b i ≡ i) → (o : Uid) (us : List Uid) → IsOrigin st pre o us → IsOrigin st (With b) o us
    kept b same o us h = record {
      before = h.before;
      event = h.event;
      act = h.act;
      mode = h.mode;
      after = h.after ++ record { event = e; body = b } ∷ [];
      are = (λ i. h.are i ++ record { event = e; body = b } ∷ [])
          ∙ append_assoc h.before (record { event = h.event; body = body.Granted 1 h.act o h.mode } ∷ h.after) (record { event = e; body = b } ∷ []);
      inc = h.inc ∙ sym (inc_more 1 (st.incs 1 + 1) pre (record { event = e; body = b }) ∙ same (incarnation st pre 1));
      from = h.from;
    }

    module _ (up : ℕ) (rows : List Row) (all : (r : Row) → In r rows → IsOrigin st pre r.object r.holder) where
      abbrev Step : Body → Row → Type 0
      Step b r = IsOrigin st (pre ++ record { event = e; body = b } ∷ []) r.object r.holder

      stays : (b : Body) → ((i : ℕ) → inc_step 1 b i ≡ i) → (r : Row) → In r rows → Step b r
      stays b same r i = kept b same r.object r.holder (all r i)

      -- a row with its object and holder
      alike : (b : Body) → ((i : ℕ) → inc_step 1 b i ≡ i) → (r q : Row) → In q rows → r.object ≡ q.object → r.holder ≡ q.holder → Step b r
      alike b same r q i object holder = kept b same r.object r.holder
          (subst (λ o. IsOrigin st pre o r.holder) (sym object) (subst (IsOrigin st pre q.object) (sym holder) (all q i)))

      granted : (m : ℕ) (u o : Uid) (how : Mode) (r : Row) (b : Bool) → (m == 1) ≡ b →
          In r (if b then grant_row (granted_row (e == up) (acts pre) u o how) rows else rows) → Step (body.Granted m u o how) r
      granted m u o how r false off i = stays (body.Granted m u o how) (λ j. refl) r i
      granted m u o how r true one i = ⊎_elim {C = Step (body.Granted m u o how) r}
          (λ old. stays (body.Granted m u o how) (λ j. refl) r old)
          (λ h. ⊎_elim {C = Step (body.Granted m u o how) r}
          (λ is. subst (Step (body.Granted m u o how)) (sym is) (this (e == up)))
          (λ f. alike (body.Granted m u o how) (λ j. refl) r f.0 f.1 (ap (λ (w : Row). w.object) f.3)
          (ap (λ (w : Row). w.holder) f.3)) h)
          (grant_each (granted_row (e == up) (acts pre) u o how) r rows i)
        where
          this : (back : Bool) → Step (body.Granted m u o how) (granted_row back (acts pre) u o how)
          this true = record {
            before = pre;
            event = e;
            act = u;
            mode = how;
            after = [];
            are = λ i. pre ++ record { event = e; body = body.Granted (eqb-true m 1 one i) u o how } ∷ [];
            inc = sym (inc_more 1 (st.incs 1 + 1) pre (record { event = e; body = body.Granted m u o how }));
            from = inl refl;
          }
          this false = record {
            before = pre;
            event = e;
            act = u;
            mode = how;
            after = [];
            are = λ i. pre ++ record { event = e; body = body.Granted (eqb-true m 1 one i) u o how } ∷ [];
            inc = sym (inc_more 1 (st.incs 1 + 1) pre (record { event = e; body = body.Granted m u o how }));
            from = inr ([], sym (append-nil (uids (path_by (acts pre) u))), λ none. none);
          }

      lowered : (m : ℕ) (u o : Uid) (r : Row) (b : Bool) → In r (if b then lower_row u o rows else rows) → Step (body.Lowered m u o) r
      lowered m u o r false i = stays (body.Lowered m u o) (λ j. refl) r i
      lowered m u o r true i =
          let f = in_map (λ row. if is_row_of o u row then record row { mode = mode.Read } else row) r rows i in
          by f.0 (is_row_of o u f.0) f.1 f.2
        where
          by : (q : Row) (b : Bool) → In q rows → (if b then record q { mode = mode.Read } else q) ≡ r → Step (body.Lowered m u o) r
          by q true there is = alike (body.Lowered m u o) (λ j. refl) r q there (ap (λ (w : Row). w.object) (sym is))
              (ap (λ (w : Row). w.holder) (sym is))
          by q false there is = subst (Step (body.Lowered m u o)) is (stays (body.Lowered m u o) (λ j. refl) q there)

      closed : (m x : ℕ) (c : Binding) (r : Row) (b : Bool) → In r (if b then close_rows (object x) rows else rows) →
          Step (body.Active m x c) r
      closed m x c r false i = stays (body.Active m x c) (λ j. refl) r i
      closed m x c r true i = stays (body.Active m x c) (λ j. refl) r (in_filter (λ row. not (uid_eq row.object (object x))) r rows i).0

      told : (m : ℕ) (u : Uid) (how : End) (p : Part) (r : Row) (b : Bool) → In r (if b then tell_rows p u how rows else rows) →
          Step (body.Told m u how p) r
      told m u how p r false i = stays (body.Told m u how p) (λ j. refl) r i
      told m u ending.Abort p r true i = stays (body.Told m u ending.Abort p) (λ j. refl) r
          (in_filter (λ row. not (is_in_part p row && is_on row.holder u)) r rows i).0
      told m u ending.Commit p r true i =
          let f = in_filter_map (λ row. if is_in_part p row then passed u rows row else Some row) r rows i in
          by f.0 (is_in_part p f.0) (is_held_by u f.0) f.1 f.2
        where
          heard : (i : ℕ) → inc_step 1 (body.Told m u ending.Commit p) i ≡ i
          heard i = refl

          handed : (q : Row) → In q rows → (o : Option Uid) → before_last q.holder ≡ o → handed_on rows q o ≡ Some r →
              Step (body.Told m u ending.Commit p) r
          handed q there None heir is = none_is is
          handed q there (Some h) heir is = go (has_row q.object h rows) is
            where
              go : (c : Bool) → (if c then None else Some (renamed q)) ≡ Some r → Step (body.Told m u ending.Commit p) r
              go true is = none_is is
              go false is = subst (Step (body.Told m u ending.Commit p)) (some_is is) (moved (stays (body.Told m u ending.Commit p) heard q
                  there))
                where
                  moved : IsOrigin st (With (body.Told m u ending.Commit p)) q.object q.holder →
                      IsOrigin st (With (body.Told m u ending.Commit p)) q.object (front q.holder)
                  moved h = record {
                    before = h.before;
                    event = h.event;
                    act = h.act;
                    mode = h.mode;
                    after = h.after;
                    are = h.are;
                    inc = h.inc;
                    from = passes_on q.holder h.act _ (uids (path_by (acts h.before) h.act)) heir h.from;
                  }

          strong : (q : Row) (o : Option Row) → ((strengthened q o).object ≡ q.object) × ((strengthened q o).holder ≡ q.holder)
          strong q None = (refl, refl)
          strong q (Some s) = (refl, refl)

          by : (q : Row) (c d : Bool) → In q rows → (if c then (if d then handed_on rows q (before_last q.holder) else Some
              (strengthened q (find (goes_to u q) rows))) else Some q) ≡ Some r → Step (body.Told m u ending.Commit p) r
          by q false d there is = subst (Step (body.Told m u ending.Commit p)) (some_is is) (stays (body.Told m u ending.Commit p) heard q there)
          by q true true there is = handed q there (before_last q.holder) refl is
          by q true false there is = let s = strong q (find (goes_to u q) rows) in
              subst (Step (body.Told m u ending.Commit p)) (some_is is)
              (alike (body.Told m u ending.Commit p) heard (strengthened q (find (goes_to u q) rows)) q there s.0 s.1)

      halted : (m : ℕ) (r : Row) (b : Bool) → In r (if b then [] else rows) → Step (body.Halted m) r
      halted m r false i = stays (body.Halted m) (λ j. refl) r i
      halted m r true i = absurd i

      upped : (m n : ℕ) (r : Row) (b : Bool) → (m == 1) ≡ b → In r (if b then [] else rows) → Step (body.Up m n) r
      upped m n r false off i = stays (body.Up m n) (λ j l. if off l then n else j) r i
      upped m n r true on i = absurd i

      pub step : (b : Body) (r : Row) → In r (table_step 1 (acts pre) up e b rows) → Step b r
      step (body.Granted m u o how) r i = granted m u o how r (m == 1) refl i
      step (body.Lowered m u o) r i = lowered m u o r (m == 1) i
      step (body.Active m x c) r i = closed m x c r (m == 1) i
      step (body.Told m u how p) r i = told m u how p r (m == 1) i
      step (body.Halted m) r i = halted m r (m == 1) i
      step (body.Up m n) r i = upped m n r (m == 1) refl i
      step b r i = stays b (λ j. refl) r i

  rows_from : (pre ls : List Line) (rows : List Row) → ((r : Row) → In r rows → IsOrigin st pre r.object r.holder) → (r : Row) →
      In r (table_from 1 (acts pre) (up_of 1 pre) rows ls) → IsOrigin st (pre ++ ls) r.object r.holder
  rows_from pre [] rows all r i = subst (λ ms. IsOrigin st ms r.object r.holder) (sym (append-nil pre)) (all r i)
  rows_from pre (l ∷ ls) rows all r i =
      subst (λ ms. IsOrigin st ms r.object r.holder) (append_assoc pre (l ∷ []) ls)
      (rows_from (pre ++ l ∷ []) ls (table_step 1 (acts pre) (up_of 1 pre) l.event l.body rows)
      (λ q j. step pre l.event (up_of 1 pre) rows all l.body q j) r
      (subst (In r) (λ j. table_from 1 (sym (acts_on pre (l ∷ [])) j) (sym (ups_on 1 0 pre (l ∷ [])) j)
      (table_step 1 (acts pre) (up_of 1 pre) l.event l.body rows) ls) i))

  -- whoever has a lock there was granted it, or has it from one below
  pub lock_origin : (ls : List Line) (u o : Uid) (how : Mode) → has_lock 1 u o how ls ≡ true →
      (us : List Uid) × IsOrigin st ls o us × (last_uid us ≡ u)
  lock_origin ls u o how is =
      let f = one_passes (λ (row : Row). is_row_of o u row && nat_le (mode_code how) (mode_code row.mode)) (table 1 ls) is in
      let r = f.0 in
      let p = and_parts (is_row_of o u r) (nat_le (mode_code how) (mode_code r.mode)) f.2 in
      let q = and_parts (uid_eq r.object o) (uid_eq (last_uid r.holder) u) p.0 in (
        r.holder,
        subst (λ z. IsOrigin st ls z r.holder) (uid_is r.object o q.0) (rows_from [] ls [] (λ w i. absurd i) r f.1),
        uid_is (last_uid r.holder) u q.1,
      )

-- ---- roots

-- who stands on a path that was begun was begun, and has its root
pub above_root : (begun : List Action) → AreBegun begun → (a : Action) → In a begun → (v : Uid) → is_on (uids_of a.path) v ≡ true →
    (d : Action) × In d begun × (act_of d ≡ v) × (first_uid (uids_of d.path) ≡ first_uid (uids_of a.path))
above_root [] all a i v on = absurd i
above_root (c ∷ begun) all a (inr i) v on = let r = above_root begun all.1 a i v on in (r.0, inr r.1, r.2, r.3)
above_root (c ∷ begun) all a (inl is) v on =
    subst (λ (z : Action). (d : Action) × In d (c ∷ begun) × (act_of d ≡ v) × (first_uid (uids_of d.path) ≡ first_uid (uids_of z.path))) is
    (by (λ b i above. above_root begun all.1 b i v above) c.kind (let b = all.0 in b.stands)
    (ap (λ (z : Action). is_on (uids_of z.path) v) is ∙ on))
  where
    Above : Type 0
    Above = (d : Action) × In d (c ∷ begun) × (act_of d ≡ v) × (first_uid (uids_of d.path) ≡ first_uid (uids_of c.path))

    alone : uids_of c.path ≡ act_of c ∷ [] → is_on (uids_of c.path) v ≡ true → Above
    alone path on = (c, inl refl, itself (uid_eq (act_of c) v) refl (sym (ap (λ us. is_on us v) path) ∙ on), refl)
      where
        itself : (b : Bool) → uid_eq (act_of c) v ≡ b → (uid_eq (act_of c) v || false) ≡ true → act_of c ≡ v
        itself true e h = uid_is (act_of c) v e
        itself false e h = never h (λ i. e i || false)

    first_more : (us ws : List Uid) → 1 ≤ length us → first_uid (us ++ ws) ≡ first_uid us
    first_more [] ws some = absurd (omega (arith, some))
    first_more (u ∷ us) ws some = refl

    Older : Type 0
    Older = (b : Action) → In b begun → is_on (uids_of b.path) v ≡ true → (d : Action) × In d begun × (act_of d ≡ v)
        × (first_uid (uids_of d.path) ≡ first_uid (uids_of b.path))

    below : Older → (b : Action) → In b begun → uids_of c.path ≡ uids_of b.path ++ act_of c ∷ [] → is_on (uids_of c.path) v ≡ true → Above
    below ih b i path on = ⊎_elim {C = Above}
        (λ above. let r = ih b i above in
        (r.0, inr r.1, r.2, r.3 ∙ sym (ap first_uid path ∙ first_more (uids_of b.path) (act_of c ∷ []) (path_some b.path))))
        (λ its. (c, inl refl, its, refl)) (on_more (uids_of b.path) (act_of c) v (sym (ap (λ us. is_on us v) path) ∙ on))

    by : Older → (k : Kind) → Stands begun c k → is_on (uids_of c.path) v ≡ true → Above
    by ih kind.Top s on = alone s.0 on
    by ih kind.Serial s on = alone s.0 on
    by ih kind.Independent s on = alone s.0 on
    by ih kind.Nested s on = below ih s.0 (in_from s.0 begun s.1) s.3 on
    by ih kind.Constituent s on = below ih s.0 (in_from s.0 begun s.1) s.3 on

-- actions that are distinct were so before lines came
pub distinct_before : (xs : List Act) (ls : List Line) → AreDistinct (acts_from xs ls) → AreDistinct xs
distinct_before xs [] apart = apart
distinct_before xs (l ∷ ls) apart = by l.body (distinct_before (acts_after xs l.body) ls apart)
  where
    by : (b : Body) → AreDistinct (acts_after xs b) → AreDistinct xs
    by (body.Began m k w p) apart = apart.3
    by b apart = apart

-- the path of one that began stays as lines come
pub by_stays : (xs : List Act) (ls : List Line) → AreDistinct (acts_from xs ls) → (u : Uid) → has_act xs u ≡ true →
    path_by (acts_from xs ls) u ≡ path_by xs u
by_stays xs [] distinct u there = refl
by_stays xs (l ∷ ls) distinct u there =
    by_stays (acts_after xs l.body) ls distinct u (more l.body there) ∙ one l.body (distinct_before (acts_after xs l.body) ls distinct) there
  where
    more : (b : Body) → has_act xs u ≡ true → has_act (acts_after xs b) u ≡ true
    more (body.Began l k w p) is = or_last (uid_eq w u) is
      where
        or_last : (a : Bool) {b : Bool} → b ≡ true → (a || b) ≡ true
        or_last true h = refl
        or_last false h = h
    more b is = is

    one : (b : Body) → AreDistinct (acts_after xs b) → has_act xs u ≡ true → path_by (acts_after xs b) u ≡ path_by xs u
    one (body.Began l k w p) apart is = by (uid_eq w u) refl
      where
        by : (c : Bool) → uid_eq w u ≡ c → (if c then path_in xs (record { id = length xs; label = name l; kind = k; uid = w; parent = option_map name p })
            else path_by xs u) ≡ path_by xs u
        by false e = refl
        by true e = never is (ap (has_act xs) (sym (uid_is w u e)) ∙ apart.2)
    one b apart is = refl

-- all of a path are of the journal
in_paths : (xs : List Act) (l : List ℕ) (z : Act) → In z (path xs l) → In z xs
in_paths xs l z i = on_path xs l z i

-- two paths that begin with one Uid have one root
pub one_root : (xs : List Act) → AreDistinct xs → (p q : List Act) → ((z : Act) → In z p → In z xs) → ((z : Act) → In z q → In z xs) →
    1 ≤ length (uids p) → 1 ≤ length (uids q) → first_uid (uids p) ≡ first_uid (uids q) → is_root (root_in p) (root_in q) ≡ true
one_root xs distinct [] q f g some there same = absurd (omega (arith, some))
one_root xs distinct (x ∷ p) [] f g some there same = absurd (omega (arith, there))
one_root xs distinct (x ∷ p) (y ∷ q) f g some there same =
    let one : x ≡ y = one_act xs distinct x y (f x (inl refl)) (g y (inl refl)) same in eq-eqb x.id y.id (ap (λ (z : Act). z.id) one)

-- ---- journals of which so much is known

-- each lock on an entry was granted to an action that began before
abbrev pub GrantsBegan : List Line → Type 0
GrantsBegan lines = (pre : List Line) (e : ℕ) (u o : Uid) (how : Mode) (post : List Line) →
    lines ≡ pre ++ record { event = e; body = body.Granted 1 u o how } ∷ post → is_entry o ≡ true → has_act (acts pre) u ≡ true

-- the journal's part in form, and who has been granted locks on entries
pub record IsSettled (lines : List Line) : Type 0 where
  pub early : IsEarly lines
  pub begins : GrantsBegan lines

pub settled_before : (ls ks : List Line) → IsSettled (ls ++ ks) → IsSettled ls
settled_before ls ks h = record {
  early = early_before ls ks h.early;
  begins = λ pre e u o how post are on. h.begins pre e u o how (post ++ ks) ((λ i. are i ++ ks)
      ∙ append_assoc pre (record { event = e; body = body.Granted 1 u o how } ∷ post) ks) on;
}

-- ---- who has entered

module _ (st : Start) (lines before after : List Line) (are : lines ≡ before ++ after) (begun : List Action) (all : AreBegun begun)
    (alike : AreAlike begun (acts lines)) (distinct : AreDistinct (acts lines)) (b : Action) (there : Contains begun b) (v : Uid)
    (above : is_on (uids_of b.path) v ≡ true) (p : List Act) (its : uids p ≡ uids_of b.path) (among : (z : Act) → In z p → In z (acts lines))
    (begins : GrantsBegan lines) where
  -- the root of whoever was granted it is the path's
  root_same : (x : ℕ) (h : (us : List Uid) × IsOrigin st before (entry x) us × (last_uid us ≡ v)) →
      is_root (root_in (path_by (acts (let o = h.1 in o.before)) (let o = h.1 in o.act))) (root_in p) ≡ true
  root_same x h = ap (λ q. is_root (root_in q) (root_in p)) (sym stays) ∙ subst (λ q. is_root (root_in q) (root_in p) ≡ true) named
      (one_root (acts lines) distinct (path (acts lines) (let z = act.0 in z.label)) p (λ z i. in_paths (acts lines) (let z = act.0 in z.label) z i)
      among (subst (λ us. 1 ≤ length us) (sym uids_are) (path_some (let a = action.0 in a.path)))
      (subst (λ us. 1 ≤ length us) (sym its) (path_some b.path)) (ap first_uid uids_are ∙ first_same ∙ ap first_uid (sym its)))
    where
      O : IsOrigin st before (entry x) h.0
      O = h.1

      rest : List Line
      rest = record { event = O.event; body = body.Granted 1 O.act (entry x) O.mode } ∷ O.after ++ after

      total : lines ≡ O.before ++ (record { event = O.event; body = body.Granted 1 O.act (entry x) O.mode } ∷ O.after ++ after)
      total = are ∙ (λ i. O.are i ++ after)
          ∙ append_assoc O.before (record { event = O.event; body = body.Granted 1 O.act (entry x) O.mode } ∷ O.after) after

      began : has_act (acts O.before) O.act ≡ true
      began = begins O.before O.event O.act (entry x) O.mode (O.after ++ after) total refl

      acts_are : acts lines ≡ acts_from (acts O.before) rest
      acts_are = ap acts total ∙ acts_more [] O.before rest

      stays : path_by (acts lines) O.act ≡ path_by (acts O.before) O.act
      stays = ap (λ xs. path_by xs O.act) acts_are ∙ by_stays (acts O.before) rest (subst AreDistinct acts_are distinct) O.act began

      later : has_act (acts lines) O.act ≡ true
      later = ap (λ ls. has_act (acts ls) O.act) total
          ∙ any_later (λ (a : Act). uid_eq a.uid O.act) O.before rest began

      act : (a : Act) × In a (acts lines) × (a.uid ≡ O.act)
      act = let f = one_passes (λ (a : Act). uid_eq a.uid O.act) (acts lines) later in (f.0, f.1, uid_is (let a = f.0 in a.uid) O.act f.2)

      named : path (acts lines) (let z = act.0 in z.label) ≡ path_by (acts lines) O.act
      named = label_path (acts lines) distinct (let z = act.0 in z.label) act.0 (found (acts lines) distinct act.0 act.1)
          ∙ ap (path_by (acts lines)) act.2

      action : (a : Action) × In a begun × (act_of a ≡ O.act)
      action = let f = alike_from begun (acts lines) alike act.0 act.1 in (f.0, f.1, sym f.2 ∙ act.2)

      own : uids (path_by (acts lines) O.act) ≡ uids_of (let a = action.0 in a.path)
      own = ap (λ u. uids (path_by (acts lines) u)) (sym action.2)
          ∙ (let f = path_fits begun (acts lines) all alike action.0 action.1 in let z = f.actor_is in z.path_is)

      uids_are : uids (path (acts lines) (let z = act.0 in z.label)) ≡ uids_of (let a = action.0 in a.path)
      uids_are = ap uids named ∙ own

      -- the holder is on its path
      on_last_of : (us ws : List Uid) → 1 ≤ length us → is_on (us ++ ws) (last_uid us) ≡ true
      on_last_of [] ws some = absurd (omega (arith, some))
      on_last_of (u ∷ []) ws some = λ i. uid_same u i || is_on ws u
      on_last_of (u ∷ w ∷ us) ws some = or_last (uid_eq u (last_uid (w ∷ us))) (on_last_of (w ∷ us) ws (omega arith))
        where
          or_last : (a : Bool) {b : Bool} → b ≡ true → (a || b) ≡ true
          or_last true h = refl
          or_last false h = h

      first_same : first_uid (uids_of (let a = action.0 in a.path)) ≡ first_uid (uids_of b.path)
      first_same = by O.from
        where
          top : (d : Action) × In d begun × (act_of d ≡ v) × (first_uid (uids_of d.path) ≡ first_uid (uids_of b.path))
          top = above_root begun all b (in_from b begun there) v above

          joined : is_on (uids_of (let a = action.0 in a.path)) v ≡ true →
              first_uid (uids_of (let a = action.0 in a.path)) ≡ first_uid (uids_of b.path)
          joined on =
              let d = above_root begun all action.0 action.1 v on in
              let one : d.0 ≡ top.0 = one_action begun all d.0 top.0 d.1 top.1 (d.2 ∙ sym top.2) in
              sym d.3 ∙ ap (λ (z : Action). first_uid (uids_of z.path)) one ∙ top.3

          by : IsFrom h.0 O.act (uids (path_by (acts O.before) O.act)) →
              first_uid (uids_of (let a = action.0 in a.path)) ≡ first_uid (uids_of b.path)
          by (inl alone) =
              let same : O.act ≡ v = sym (ap last_uid alone) ∙ h.2 in
              let one : action.0 ≡ top.0 = one_action begun all action.0 top.0 action.1 top.1 (action.2 ∙ same ∙ sym top.2) in
              ap (λ (z : Action). first_uid (uids_of z.path)) one ∙ top.3
          by (inr f) = some h.0 h.2 f.1 f.2
            where
              path_is : uids_of (let a = action.0 in a.path) ≡ uids (path_by (acts O.before) O.act)
              path_is = sym own ∙ ap uids stays

              some : (us : List Uid) → last_uid us ≡ v → uids (path_by (acts O.before) O.act) ≡ us ++ f.0 →
                  (us ≡ [] → uids (path_by (acts O.before) O.act) ≡ []) →
                  first_uid (uids_of (let a = action.0 in a.path)) ≡ first_uid (uids_of b.path)
              some [] last are none =
                  let long : length (uids_of (let a = action.0 in a.path)) ≡ 0 = ap length (path_is ∙ none refl) in
                  let one = path_some (let a = action.0 in a.path) in absurd (omega (arith, long, one))
              some (u ∷ us) last are none = joined (ap (λ ws. is_on ws v) (path_is ∙ are)
                  ∙ subst (λ w. is_on ((u ∷ us) ++ f.0) w ≡ true) last (on_last_of (u ∷ us) f.0 (omega arith)))

  -- so the root has entered in that incarnation
  pub entered_then : (x : ℕ) (how : Mode) → has_lock 1 v (entry x) how before ≡ true →
      has_entered_in st lines x (root_in p) (incarnation st before 1) ≡ true
  entered_then x how locked =
      let h = lock_origin st before v (entry x) how locked in
      let O = h.1 in
      let total : lines ≡ O.before ++ (record { event = O.event; body = body.Granted 1 O.act (entry x) O.mode } ∷ O.after ++ after)
      = are ∙ (λ i. O.are i ++ after)
      ∙ append_assoc O.before (record { event = O.event; body = body.Granted 1 O.act (entry x) O.mode } ∷ O.after) after in
      found_entering lines O.before O.event O.act O.mode (O.after ++ after) total (root_in p) (incarnation st before 1) O.inc (root_same x h)
    where
      found_entering : (ls pre : List Line) (e : ℕ) (u : Uid) (how : Mode) (post : List Line) →
          ls ≡ pre ++ record { event = e; body = body.Granted 1 u (entry x) how } ∷ post → (root : Option ℕ) (i : ℕ) →
          incarnation st pre 1 ≡ i → is_root (root_in (path_by (acts pre) u)) root ≡ true → has_entered_in st ls x root i ≡ true
      found_entering ls pre e u how post is root i inc same =
          subst (λ ms. list_any (test ls) (enterings ms) ≡ true) (sym is)
          (ap (list_any (test ls)) (read-append entering_of [] 0 pre (line ∷ post))
          ∙ any_behind (test ls) (enterings pre) (read entering_of (acts_from [] pre) (0 + length pre) (line ∷ post))
          (λ j. (eq-eqb x x refl j && (same j && in_it j))
          || list_any (test ls) (read entering_of (acts_after (acts_from [] pre) line.body) (0 + length pre + 1) post)))
        where
          line : Line
          line = record { event = e; body = body.Granted 1 u (entry x) how }

          test : List Line → Placed Entering → Bool
          test ms a = (a.it.x == x) && (is_root a.it.root root && (incarnation st (take a.at ms) 1 == i))

          from_none : (m : ℕ) → 0 + m ≡ m
          from_none m = omega arith

          in_it : (incarnation st (take (0 + length pre) ls) 1 == i) ≡ true
          in_it = (λ j. incarnation st (take (0 + length pre) (is j)) 1 == i)
              ∙ ap (λ m. incarnation st (take m (pre ++ line ∷ post)) 1 == i) (from_none (length pre))
              ∙ ap (λ ms. incarnation st ms 1 == i) (take-append_seam pre (line ∷ post)) ∙ (λ j. inc j == i) ∙ eq-eqb i i refl

          any_behind : {A : Type 0} (f : A → Bool) (xs ys : List A) → list_any f ys ≡ true → list_any f (xs ++ ys) ≡ true
          any_behind f [] ys is = is
          any_behind f (z ∷ xs) ys is = or_last (f z) (any_behind f xs ys is)
            where
              or_last : (a : Bool) {b : Bool} → b ≡ true → (a || b) ≡ true
              or_last true h = refl
              or_last false h = h
