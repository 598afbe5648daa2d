-- Different tops of a readable journal have different keys.
use Rattle.std.proofs.Common.{◌≡◌, ◌<◌, ℕ, List, [], ◌∷◌, ◌++◌, length, Bool, true, false, cond, ◌&&◌, ◌||◌, ◌==◌, Option, Some, None}
use Rattle.std.proofs.Common.{slice_get, refl, sym, ◌∙◌, ap, subst, arith}
use Rattle.std.specs.Prelude.{not}
use Rattle.std.specs.List.{AllByRecursion, cons_option, filter_map, list_all, list_any}
use Rattle.std.specs.Option.{option_map, unwrap_or}
use Rattle.std.proofs.lemmas.Bool.{eq-eqb, eqb-true}
use Rattle.arj_base.proofs.Uids.{uid_is}
use Rattle.arj_base.specs.Uid.{uid_eq}
use Rattle.arj_base.specs.declared.uid.Uid.{Uid}
use Rattle.arj_journal.specs.declared.body.Body.{Body}
use Rattle.arj_journal.specs.declared.body.Body.TheVariants as body
use Rattle.arj_journal.specs.declared.body.Line.{Line}
use Rattle.arj_journal.specs.declared.header.Header.{Header}
use Rattle.arj_text.specs.Label.{name}
use Rattle.arj_model.specs.Actions.{Act, Placed, acts, acts_from, chain_in, committed, committed_of, has_end, is_committed, path, recovered}
use Rattle.arj_model.specs.Actions.{root_in, recovered_of, top_in}
use Rattle.arj_model.specs.Calls.{Call, Said, Top, call_of, committed_calls, committing_of, committings, kept, kept_in, root_or, said}
use Rattle.arj_model.specs.Calls.{said_of, top_by, top_of, tops}
use Rattle.arj_model.specs.Serial.{top_place}
use Rattle.arj_law.proofs.Common.{Pairwise, all_filter_map, all_map, never, pairwise_filter_map, read_rises}
use Rattle.arj_reading.specs.Readable.{Readable, act_by, body_rule, called, called_of, end_rule, is_top, known, met, named, named_as}
use Rattle.arj_reading.specs.Readable.{recovered_rule, unless, was_called}
use Rattle.arj_reading.specs.Reading.{actions_of}
use Rattle.arj_reading.specs.declared.action.Action.{Action}
use Rattle.arj_reading.specs.declared.named.Named.{Named}
use Rattle.arj_reading.specs.declared.rule.Rule.{Rule}
use Rattle.arj_reading.specs.declared.rule.Rule.TheVariants as rule
use Rattle.arj_reading.proofs.Numbers.{are_numbered, by_label, named_here}
use Rattle.arj_replay.specs.Orders.{paths}
use Rattle.arj_check.specs.Keys.{HaveOwnKeys, path_at, top_at}
use Rattle.arj_check.proofs.Begun.{BeganWell, IsTop, acts_on, actions_stay, all_along, begun_well, read_stays, top_later, tops_stand}
use Rattle.arj_check.proofs.Begun.{uid_stays}
use Rattle.arj_check.proofs.Calls.{has_begun, neither}
use Rattle.arj_check.proofs.Marks.{tops_are}
use Rattle.arj_start.specs.Kinds.{is_serial}

-- one of the items passes the test
any_all : {A : Type 0} (P : A → Type 0) (t : A → Bool) (xs : List A) → AllByRecursion P xs → list_any t xs ≡ true →
    (x : A) × P x × (t x ≡ true)
any_all P t [] h e = never false e refl
any_all {A} P t (x ∷ xs) h e = by (any_all P t xs h.1) (t x) refl e
  where
    by : (list_any t xs ≡ true → (y : A) × P y × (t y ≡ true)) → (b : Bool) → t x ≡ b → (b || list_any t xs) ≡ true →
        (y : A) × P y × (t y ≡ true)
    by ih true is g = (x, h.0, is)
    by ih false is g = ih g

-- The commit of a committed top was called.

-- the commit of an action was called, where it is a top; by its line
record IsRight (lines : List Line) (e : Placed ℕ) : Type 0 where
  action : Named
  kept : named_here e.it (slice_get (actions_of (acts lines)) e.it) ≡ Some action
  number : action.number ≡ e.it
  right : was_called (called lines) action ≡ true

named_stays : (us : List Act) (ls : List Line) (n : ℕ) (a : Named) → named_here n (slice_get (actions_of us) n) ≡ Some a →
    named_here n (slice_get (actions_of (acts_from us ls)) n) ≡ Some a
named_stays us ls n a e = by (slice_get (actions_of us) n) refl e
  where
    by : (o : Option Action) → slice_get (actions_of us) n ≡ o → named_here n o ≡ Some a →
        named_here n (slice_get (actions_of (acts_from us ls)) n) ≡ Some a
    by None is g = absurd (cc g)
    by (Some k) is g = ap (named_here n) (actions_stay us ls n k is) ∙ g

called_stays : (before rest : List Line) (n : ℕ) → has_end (called before) n ≡ true → has_end (called (before ++ rest)) n ≡ true
called_stays before rest n e = read_stays called_of (λ m. m.it == n) [] 0 before rest e

was_called_stays : (before rest : List Line) (a : Named) → was_called (called before) a ≡ true →
    was_called (called (before ++ rest)) a ≡ true
was_called_stays before rest a e = by (is_top a.kind) e
  where
    by : (b : Bool) → cond b (has_end (called before) a.number) true ≡ true →
        cond b (has_end (called (before ++ rest)) a.number) true ≡ true
    by true g = called_stays before rest a.number g
    by false g = refl

number_is : (n : ℕ) (o : Option Action) (a : Named) → named_here n o ≡ Some a → a.number ≡ n
number_is n None a e = absurd (cc e)
number_is n (Some k) a e = let same : record { number = n; kind = k.kind } ≡ a = cc e in ap (λ b. b.number) (sym same)

unless_is : (t : Bool) (r : Rule) → unless t r ≡ None → t ≡ true
unless_is true r e = refl
unless_is false r e = absurd (cc e)

committed_right : (header : Header) (lines before : List Line) (line : Line) (rest : List Line) (n : ℕ) → lines ≡ before ++ line ∷ rest →
    body_rule header (met before) line.body ≡ None
    → committed_of (acts before) line.body ≡ Some n → IsRight lines (record { at = length before; it = n })
committed_right header lines before line rest n e keeps is = by line.body keeps is
  where
    by : (b : Body) → body_rule header (met before) b ≡ None → committed_of (acts before) b ≡ Some n →
        IsRight lines (record { at = length before; it = n })
    by (body.Committed l) r g =
        let a = has_begun (named (acts before) (name l)) _ r in
        let here : named_here n (slice_get (actions_of (acts before)) n) ≡ Some a.0 =
        by_label (acts before) (are_numbered before) (name l) n g ∙ a.1 in
        let one = neither (unless (not (is_serial (let x = a.0 in x.kind))) rule.EndOfKind) _ a.2 in
        let two = neither (end_rule (let m = met before in m.ended) a.0) _ one.1 in
        subst (λ ls. IsRight ls (record { at = length before; it = n })) (sym e)
        (record {
          action = a.0;
          kept = subst (λ us. named_here n (slice_get (actions_of us) n) ≡ Some a.0) (sym (acts_on [] before (line ∷ rest))) (named_stays (acts before) (line ∷ rest) n a.0 here);
          number = number_is n (slice_get (actions_of (acts before)) n) a.0 here;
          right = was_called_stays before (line ∷ rest) a.0 (unless_is (was_called (called before) a.0) rule.Called two.1);
        })
    by b r g = absurd (cc g)

-- the commit of an action whose record was found was called
record IsFound (lines : List Line) (u : Placed Uid) : Type 0 where
  act : Act
  before : List Act
  rest : List Line
  from : acts lines ≡ acts_from before rest
  is : act_by before u.it ≡ Some act
  right : has_end (called lines) act.id ≡ true

found_right : (header : Header) (lines before : List Line) (line : Line) (rest : List Line) (u : Uid) → lines ≡ before ++ line ∷ rest →
    body_rule header (met before) line.body ≡ None
    → recovered_of (acts before) line.body ≡ Some u → IsFound lines (record { at = length before; it = u })
found_right header lines before line rest u e keeps is = by line.body keeps is
  where
    from : (o : Option Act) → act_by (acts before) u ≡ o → recovered_rule (called before) (option_map named_as o) ≡ None →
        IsFound lines (record { at = length before; it = u })
    from None h r = absurd (cc r)
    from (Some a) h r =
        subst (λ ls. IsFound ls (record { at = length before; it = u })) (sym e)
        (record {
          act = a;
          before = acts before;
          rest = line ∷ rest;
          from = acts_on [] before (line ∷ rest);
          is = h;
          right = called_stays before (line ∷ rest) a.id (unless_is (has_end (called before) a.id) rule.Called r);
        })

    by : (b : Body) → body_rule header (met before) b ≡ None → recovered_of (acts before) b ≡ Some u →
        IsFound lines (record { at = length before; it = u })
    by (body.Recovered n w) r g =
        let same : w ≡ u =
        cc g in from (act_by (acts before) u) refl (subst (λ v. recovered_rule (called before) (known (acts before) v) ≡ None) same r)
    by b r g = absurd (cc g)

-- the top of an answered call
abbrev HasTop : List Line → Placed Said → Type 0
HasTop lines s = (t : Act) → top_in s.it.path ≡ Some t → IsTop (acts lines) t

said_top : (header : Header) (lines before : List Line) (line : Line) (rest : List Line) (s : Said) → lines ≡ before ++ line ∷ rest →
    BeganWell (acts lines) → BeganWell (acts before)
    → said_of (acts before) line.body ≡ Some s → HasTop lines (record { at = length before; it = s })
said_top header lines before line rest s e all w is = by line.body is
  where
    by : (b : Body) → said_of (acts before) b ≡ Some s → HasTop lines (record { at = length before; it = s })
    by (body.Ok l x op answer) g = λ t top.
        let own : Said = record { path = path (acts before) (name l); x = x; op = op; answer = answer } in
        let same : own ≡ s = cc g in
        let here : IsTop (acts before) t =
        tops_stand (acts before) (are_numbered before) w (name l) t (ap (λ r. top_in r.path) same ∙ top) in
        let later : acts lines ≡ acts_from (acts before) (line ∷ rest) = ap acts e ∙ acts_on [] before (line ∷ rest) in
        subst (λ us. IsTop us t) (sym later) (top_later (acts before) (line ∷ rest) t (subst BeganWell later all) here)
    by b g = absurd (cc g)

module _ (header : Header) (lines : List Line) (r : Readable header lines) where
  all_right : AllByRecursion (IsRight lines) (committed lines)
  all_right = all_along header lines committed_of (IsRight lines) (λ before line rest n e rule w is. committed_right header lines before line rest n e rule is) [] lines 0 refl tt r

  all_found : AllByRecursion (IsFound lines) (recovered lines)
  all_found = all_along header lines recovered_of (IsFound lines) (λ before line rest u e rule w is. found_right header lines before line rest u e rule is) [] lines 0 refl tt r

  all_tops : AllByRecursion (HasTop lines) (said lines)
  all_tops = all_along header lines said_of (HasTop lines) (λ before line rest s e rule w is. said_top header lines before line rest s e (begun_well header lines r) w is) [] lines 0 refl tt r

  -- by its line
  by_line : (t : Act) → IsTop (acts lines) t → has_end (committed lines) t.id ≡ true → has_end (called lines) t.id ≡ true
  by_line t top e = from (any_all (IsRight lines) (λ m. m.it == t.id) (committed lines) all_right e)
    where
      from : (x : Placed ℕ) × IsRight lines x × ((x.it == t.id) ≡ true) → has_end (called lines) t.id ≡ true
      from (x, h, same) =
          let id : x.it ≡ t.id = eqb-true x.it t.id same in
          let here : named_here t.id (Some top.action) ≡ Some h.action =
          ap (named_here t.id) (sym top.kept) ∙ (λ i. named_here (sym id i) (slice_get (actions_of (acts lines)) (sym id i))) ∙ h.kept in
          let is : record { number = t.id; kind = (let k = top.action in k.kind) } ≡ h.action = cc here in
          let kind : is_top (let a = h.action in a.kind) ≡ true = ap (λ a. is_top a.kind) (sym is) ∙ ap is_top top.same ∙ top.kind in
          let number : (let a = h.action in a.number) ≡ t.id = h.number ∙ id in
          ap (has_end (called lines)) (sym number) ∙ (λ i. cond (sym kind i) (has_end (called lines) (let a =
          h.action in a.number)) true) ∙ h.right

  -- by its record
  by_record : (t : Act) → IsTop (acts lines) t → list_any (λ u. uid_eq u.it t.uid) (recovered lines) ≡ true →
      has_end (called lines) t.id ≡ true
  by_record t top e = from (any_all (IsFound lines) (λ u. uid_eq u.it t.uid) (recovered lines) all_found e)
    where
      from : (u : Placed Uid) × IsFound lines u × (uid_eq u.it t.uid ≡ true) → has_end (called lines) t.id ≡ true
      from (u, h, same) = later h.before h.rest h.act h.from h.is h.right
        where
          later : (before : List Act) (rest : List Line) (act : Act) → acts lines ≡ acts_from before rest → act_by before u.it ≡ Some act →
              has_end (called lines) act.id ≡ true → has_end (called lines) t.id ≡ true
          later before rest act from is right =
              let stays : act_by (acts_from before rest) u.it ≡ Some act =
              uid_stays before rest u.it act (subst BeganWell from (begun_well header lines r)) is in
              let both : Some act ≡ Some t =
              sym stays ∙ sym (ap (λ us. act_by us u.it) from) ∙ ap (act_by (acts lines)) (uid_is u.it t.uid same) ∙ top.uid in
              let one : act ≡ t = cc both in
              ap (λ a. has_end (called lines) a.id) (sym one) ∙ right

  pub was_called_top : (t : Act) → IsTop (acts lines) t → is_committed (committed lines) (recovered lines) t ≡ true →
      has_end (called lines) t.id ≡ true
  was_called_top t top e = by (has_end (committed lines) t.id) refl e
    where
      by : (b : Bool) → has_end (committed lines) t.id ≡ b → (b || list_any (λ u. uid_eq u.it t.uid) (recovered lines)) ≡ true →
          has_end (called lines) t.id ≡ true
      by true is g = by_line t top is
      by false is g = by_record t top g

  -- it is one of the committed tops
  is_one : (t : Act) → IsTop (acts lines) t → is_committed (committed lines) (recovered lines) t ≡ true →
      list_any (λ s. s.id == t.id) (tops lines) ≡ true
  is_one t top e =
      subst (λ ts. list_any (λ s. s.id == t.id) ts ≡ true) (sym (tops_are lines)) (among (called lines) (was_called_top t top e))
    where
      at : Placed ℕ → Option Top
      at = top_at (committed lines) (recovered lines) (paths (acts lines))

      found : (m : Placed ℕ) → (m.it == t.id) ≡ true → (s : Top) × (at m ≡ Some s) × ((s.id == t.id) ≡ true)
      found m same =
          let id : m.it ≡ t.id = eqb-true m.it t.id same in
          let way : path_at (paths (acts lines)) m.it ≡ top.path =
          ap (path_at (paths (acts lines))) id ∙ ap (λ o. unwrap_or o []) top.there in (
            record { id = t.id; root = root_or t.id (root_in top.path); at = m.at },
            ap (λ p. top_of (committed lines) (recovered lines) (record {
              at = m.at;
              it =
                  p;
            })) way ∙ ap (top_by (committed lines) (recovered lines) (record {
              at =
                  m.at;
              it = top.path;
            })) top.own ∙ (λ i. cond (e i) (Some (record {
              id = t.id;
              root = root_or t.id (root_in top.path);
              at =
                  m.at;
            })) None),
            eq-eqb t.id t.id refl,
          )

      skip : (o : Option Top) (ts : List Top) → list_any (λ s. s.id == t.id) ts ≡ true →
          list_any (λ s. s.id == t.id) (cons_option o ts) ≡ true
      skip None ts h = h
      skip (Some s) ts h = by (s.id == t.id)
        where
          by : (b : Bool) → (b || list_any (λ s. s.id == t.id) ts) ≡ true
          by true = refl
          by false = h

      among : (ms : List (Placed ℕ)) → has_end ms t.id ≡ true → list_any (λ s. s.id == t.id) (filter_map at ms) ≡ true
      among [] h = never false h refl
      among (m ∷ ms) h = by (among ms) (m.it == t.id) refl h
        where
          by : (has_end ms t.id ≡ true → list_any (λ s. s.id == t.id) (filter_map at ms) ≡ true) → (b : Bool) → (m.it == t.id) ≡ b →
              (b || has_end ms t.id) ≡ true → list_any (λ s. s.id == t.id) (cons_option (at m) (filter_map at ms)) ≡ true
          by ih true same g =
              let f = found m same in subst (λ o. list_any (λ s. s.id == t.id) (cons_option o (filter_map at ms)) ≡ true) (sym f.1) (λ i. f.2 i || list_any (λ s. s.id == t.id) (filter_map at ms))
          by ih false same g = skip (at m) (filter_map at ms) (ih g)

  -- the top of a call that is kept is one of them
  call_top : AllByRecursion (λ c. list_any (λ s. s.id == c.top) (tops lines) ≡ true) (committed_calls lines)
  call_top = all_filter_map (HasTop lines) (λ c. list_any (λ s. s.id == c.top) (tops lines) ≡ true) (kept (committed lines) (recovered lines)) one (said lines) all_tops
    where
      one : (s : Placed Said) (c : Call) → HasTop lines s → kept (committed lines) (recovered lines) s ≡ Some c →
          list_any (λ x. x.id == c.top) (tops lines) ≡ true
      one s c h e = by (top_in s.it.path) refl e
        where
          from : (t : Act) → top_in s.it.path ≡ Some t → (a b : Bool) → is_committed (committed lines) (recovered lines) t ≡ b →
              cond (a && b) (Some (call_of s t)) None ≡ Some c → list_any (λ x. x.id == c.top) (tops lines) ≡ true
          from t is true true good g =
              let same : call_of s t ≡ c =
              cc g in subst (λ d. list_any (λ x. x.id == d.top) (tops lines) ≡ true) same (is_one t (h t is) good)
          from t is true false good g = absurd (cc g)
          from t is false b good g = absurd (cc g)

          by : (o : Option Act) → top_in s.it.path ≡ o → kept_in (committed lines) (recovered lines) s o ≡ Some c →
              list_any (λ x. x.id == c.top) (tops lines) ≡ true
          by None is g = absurd (cc g)
          by (Some t) is g =
              from t is (list_all (λ a. has_end (committed lines) a.id) (chain_in s.it.path)) (is_committed (committed lines) (recovered lines) t) refl g

-- Different tops stand at different places.

-- the tops stand by their places
tops_rise : (lines : List Line) → Pairwise (λ s t. s.at < t.at) (tops lines)
tops_rise lines =
    pairwise_filter_map (λ s t. s.at < t.at) (λ s t. s.at < t.at) (top_of (committed lines) (recovered lines))
    (λ s t x y lt e g. subst (λ n. n < y.at) (sym (at_mark s x e)) (subst (λ n. s.at < n) (sym (at_mark t y g)) lt))
    (committings lines) (read_rises committing_of [] 0 lines)
  where
    at_mark : (m : Placed (List Act)) (x : Top) → top_of (committed lines) (recovered lines) m ≡ Some x → x.at ≡ m.at
    at_mark m x e = by (top_in m.it) e
      where
        from : (t : Act) (b : Bool) → cond b (Some (record { id = t.id; root = root_or t.id (root_in m.it); at = m.at })) None ≡ Some x →
            x.at ≡ m.at
        from t true g =
            let same : (record { id = t.id; root = root_or t.id (root_in m.it); at = m.at }) ≡ x = cc g in ap (λ y. y.at) (sym same)
        from t false g = absurd (cc g)

        by : (o : Option Act) → top_by (committed lines) (recovered lines) m o ≡ Some x → x.at ≡ m.at
        by None g = absurd (cc g)
        by (Some t) g = from t (is_committed (committed lines) (recovered lines) t) g

-- a top that is there stands behind those before it
behind_all : (n : ℕ) (ts : List Top) (id : ℕ) → AllByRecursion (λ t. n < t.at) ts → list_any (λ t. t.id == id) ts ≡ true →
    n < top_place ts id
behind_all n [] id h e = never false e refl
behind_all n (t ∷ ts) id h e = by (behind_all n ts id h.1) (t.id == id) e
  where
    by : (list_any (λ t. t.id == id) ts ≡ true → n < top_place ts id) → (b : Bool) → (b || list_any (λ t. t.id == id) ts) ≡ true →
        n < cond b t.at (top_place ts id)
    by ih true g = h.0
    by ih false g = ih g

own_places : (ts : List Top) → Pairwise (λ s t. s.at < t.at) ts → (a b : ℕ) → list_any (λ t. t.id == a) ts ≡ true →
    list_any (λ t. t.id == b) ts ≡ true → top_place ts a ≡ top_place ts b → a ≡ b
own_places [] p a b e g same = never false e refl
own_places (t ∷ ts) p a b e g same = by (own_places ts p.1 a b) (t.id == a) refl (t.id == b) refl e g same
  where
    by : (list_any (λ t. t.id == a) ts ≡ true → list_any (λ t. t.id == b) ts ≡ true → top_place ts a ≡ top_place ts b → a ≡ b) →
        (x : Bool) → (t.id == a) ≡ x → (y : Bool) → (t.id == b) ≡ y → (x || list_any (λ t. t.id == a) ts) ≡ true →
        (y || list_any (λ t. t.id == b) ts) ≡ true → cond x t.at (top_place ts a) ≡ cond y t.at (top_place ts b) → a ≡ b
    by ih true is true it h k q = sym (eqb-true t.id a is) ∙ eqb-true t.id b it
    by ih true is false it h k q = let lt : t.at < top_place ts b = behind_all t.at ts b p.0 k in absurd (omega (arith, lt, q))
    by ih false is true it h k q = let lt : t.at < top_place ts a = behind_all t.at ts a p.0 h in absurd (omega (arith, lt, q))
    by ih false is false it h k q = ih h k q

-- Different tops of calls have different keys.
pub own_keys : (header : Header) (lines : List Line) → Readable header lines →
    AllByRecursion (λ c. AllByRecursion (λ d. HaveOwnKeys (tops lines) d c) (committed_calls lines)) (committed_calls lines)
own_keys header lines r =
    all_map (λ c. list_any (λ s. s.id == c.top) (tops lines) ≡ true) (λ c. AllByRecursion (λ d. HaveOwnKeys (tops lines) d c) (committed_calls lines))
    (λ c one. all_map (λ d. list_any (λ s. s.id == d.top) (tops lines) ≡ true) (λ d. HaveOwnKeys (tops lines) d c) (λ d other. apart d c other one) (committed_calls lines) (call_top header lines r)) (committed_calls lines) (call_top header lines r)
  where
    second : (u p v q : ℕ) → u ∷ p ∷ [] ≡ v ∷ q ∷ [] → p ≡ q
    second u p v q e = cc e

    apart : (d c : Call) → list_any (λ s. s.id == d.top) (tops lines) ≡ true → list_any (λ s. s.id == c.top) (tops lines) ≡ true →
        HaveOwnKeys (tops lines) d c
    apart d c other one different same =
        let at : top_place (tops lines) d.top ≡ top_place (tops lines) c.top = second _ _ _ _ same in
        never (d.top == c.top) (eq-eqb d.top c.top (own_places (tops lines) (tops_rise lines) d.top c.top other one at)) different
