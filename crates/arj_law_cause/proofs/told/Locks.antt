-- Each lock on an entry was asked for: in a restart a top gets one back that has excluded a store of the object, or of which an include
-- names one, and each include that is answered was asked below its top.
use Rattle.arj_law_parts.proofs.Words
use Words.{◌≡◌, ◌∙◌, ◌==◌, ◌&&◌, ◌||◌, ◌++◌, ◌+◌, not, ℕ, Bool, true, false, if◌then◌else◌, List, [], ◌∷◌, Option, Some, None, refl}
use Words.{sym, ap, subst, inl, inr, ⊎_elim, and_parts, append-nil, append_assoc, bytes_eq-Decides, eqb-true, in_filter, In, length, name}
use Words.{cons_option, in_find, list_all, or_cases, list_any, list_any-append, uid_eq, uid_is, uid_same, Body, Event, Header, Line, Mode}
use Words.{Uid, entry, numbered, journal_by}
use Words.body
use Words.event
use Words.mode
use Rattle.arj_law_lock_view.proofs.journal.Reading.{in_cases, in_either}
use Rattle.arj_law_runs.proofs.journal.Models.{AreSound, in_later, its_sound, tells}
use Rattle.arj_law_runs.specs.follow.Frames.{are_so, run_events}
use Rattle.arj_law_runs.specs.journal.{Book.new_book, Right.AreRight}
use Rattle.arj_law_serial.proofs.Terms.{Act, AreDistinct, act_in, acts, acts_from, acts_more, path, uids}
use Rattle.arj_law_serial.proofs.joint.Called.{right_front}
use Rattle.arj_model.specs.Actions.{Placed, chain_in, committed, has_end, top_in}
use Rattle.arj_model.specs.CauseLocks.{asking_path, entry_asked, granted_caused, is_restart, object_asked, uses_below}
use Rattle.arj_model.specs.CauseAnswers.{has_lock, includes_caused}
use Rattle.arj_model.specs.CausePends.{has_some}
use Rattle.arj_model.specs.CauseSpans.{Here, act_by, asking, behind, from_place, here_at, holds_in, is_include_of, is_top_in, same_mode}
use Rattle.arj_model.specs.CauseSpans.{top_uids}
use Rattle.arj_model.specs.Follows.{Step}
use Rattle.arj_model.specs.Last as last
use Rattle.arj_model.specs.Last.{included, included_of, joins_by, joins_of, leaves_of}
use Rattle.arj_model.specs.Past.{Along, Asked, Past, asked_of, at_start, block, is_refused, label_of, next}
use Rattle.arj_model.specs.Refusals.{answers_to, asks_by, has_ended, holds_of, is_ask_by, last_asked, object_used, unanswered}
use Rattle.arj_model.specs.Table.{is_entry, table}
use Rattle.arj_base.specs.Rows.{first_conflict}
use Rattle.std.specs.List.{filter_map}
use Rattle.std.specs.Prelude.{is_none, nat_lt}
use Rattle.arj_law_serial.proofs.order.Paths.{top_on}
use Rattle.arj_law_cause.proofs.follow.lines.Numbers.{in_path}
use Rattle.arj_law_cause.proofs.kinds.Back.{is_for, is_given_back, is_granted_by}
use Rattle.arj_law_cause.proofs.kinds.Committed.{right_lines}
use Rattle.arj_law_cause.proofs.kinds.Entries.{granted_entry_row}
use Rattle.arj_law_cause.proofs.kinds.Forms.{runs_too}
use Rattle.arj_law_cause.proofs.kinds.Lines.{more_lines}
use Rattle.arj_law_cause.proofs.rows.Paths.{no_path, path_stays, some_is}
use Rattle.arj_law_cause.proofs.rows.Spans.{or_first, or_last}
use Rattle.arj_law_cause.proofs.rows.Whole.{answers_are_caused}
use Rattle.arj_law_cause.proofs.told.{Joined.journals_follow, Together.together}
use Rattle.arj_law_cause.proofs.waits.waiting.Lists.{any_in}
use Rattle.arj_law_cause.specs.kinds.Kinds.{is_granted_entry}
use Rattle.arj_law_cause.specs.kinds.Rows.{RowHolds, RowStep, TestedStep, row, tested}
use Rattle.arj_law_cause.specs.rows.Lines.{AnswersStep, answer_fits, include_is_free}

-- ---- what was asked

-- of each accepted event the path is that of its label by some first lines
abbrev PathedBy : List Line → Asked → Type 0
PathedBy lines k = (first : List Line) × (more : List Line) × (lines ≡ first ++ more) × (k.path ≡ path (acts first) (label_of k.event))

abbrev ArePathed : List Line → List Asked → Type 0
ArePathed lines ks = (k : Asked) → In k ks → PathedBy lines k

pathed_later : (ls ms : List Line) (ks : List Asked) → ArePathed ls ks → ArePathed (ls ++ ms) ks
pathed_later ls ms ks all k i =
    let p = all k i in (p.0, p.1 ++ ms, ap (λ zs. zs ++ ms) p.2 ∙ append_assoc p.0 p.1 ms, p.3)

-- each include that is answered was asked below its top
abbrev AreAsked : List Asked → List Line → Type 0
AreAsked ks lines = (i : Placed last.Inclusion) → In i (included lines) → (t : Act) → top_in i.it.path ≡ Some t →
    In t (acts lines) × (list_any (uses_below t.uid i.it.x) ks ≡ true)

-- ---- tests

some_of_test : (f : Act → Bool) (o : Option Act) → holds_of f o ≡ true → (a : Act) × (o ≡ Some a) × (f a ≡ true)
some_of_test f None is = absurd (cc is)
some_of_test f (Some a) is = (a, refl, is)

some_in_test : {A : Type 0} (f : A → Bool) (o : Option A) → holds_in f o ≡ true → (a : A) × (o ≡ Some a) × (f a ≡ true)
some_in_test f None is = absurd (cc is)
some_in_test f (Some a) is = (a, refl, is)

last_in : (ks : List Asked) (k : Asked) → last_asked ks ≡ Some k → In k ks
last_in [] k is = let no_way : ◌≡◌ {A = Option Asked} None (Some k) = is in absurd (cc no_way)
last_in (x ∷ []) k is = inl (some_is is)
last_in (x ∷ y ∷ rest) k is = inr (last_in (y ∷ rest) k is)

-- what an action asks was accepted
asking_in : (h : Here) (l : List ℕ) (k : Asked) → asking h l ≡ Some k → In k h.accepted × (is_ask_by l k.event ≡ true)
asking_in h l k is = over (has_ended h.lines l) is
  where
    none : (o : Option Asked) → o ≡ None → o ≡ Some k → In k h.accepted × (is_ask_by l k.event ≡ true)
    none o gone there = let no_way : ◌≡◌ {A = Option Asked} None (Some k) = sym gone ∙ there in absurd (cc no_way)

    found : (b : Bool) → (if b then last_asked (asks_by h.accepted l) else None) ≡ Some k → In k h.accepted × (is_ask_by l k.event ≡ true)
    found true there = in_filter (λ (a : Asked). is_ask_by l a.event) k h.accepted (last_in (asks_by h.accepted l) k there)
    found false there = none None refl there

    over : (b : Bool) → (if b then None else unanswered h.accepted h.lines l) ≡ Some k → In k h.accepted × (is_ask_by l k.event ≡ true)
    over true there = none None refl there
    over false there = found (nat_lt (length (answers_to h.lines l)) (length (asks_by h.accepted l))) there

-- ---- an include's line

module _ (h : Here) (right : AreRight new_book h.lines) (pathed : ArePathed h.lines h.accepted) (l : List ℕ) (x n : ℕ) where
  -- the top of what was asked is that of its label
  same_top : (k : Asked) → In k h.accepted → is_ask_by l k.event ≡ true → (t : Act) → top_in k.path ≡ Some t →
      top_in (path (acts h.lines) l) ≡ Some t
  same_top k there by_label t top = stay (act_in (acts p.0) l) refl
    where
      p : PathedBy h.lines k
      p = pathed k there

      label : (e : Event) → is_ask_by l e ≡ true → label_of e ≡ l
      label (event.Call m y o) is = (bytes_eq-Decides (name m) l).0 is
      label (event.Include m y s) is = (bytes_eq-Decides (name m) l).0 is
      label (event.Begin a b) is = absurd (cc is)
      label (event.Serial a b) is = absurd (cc is)
      label (event.BeginIn a b) is = absurd (cc is)
      label (event.Top a b) is = absurd (cc is)
      label (event.Commit a) is = absurd (cc is)
      label (event.Abort a) is = absurd (cc is)
      label (event.GiveUp a) is = absurd (cc is)
      label (event.Deliver a) is = absurd (cc is)
      label (event.Lose a) is = absurd (cc is)
      label (event.Tick a) is = absurd (cc is)
      label event.Settle is = absurd (cc is)
      label event.Quiesce is = absurd (cc is)
      label (event.Crash a) is = absurd (cc is)
      label (event.Restart a) is = absurd (cc is)
      label (event.Stop a b c) is = absurd (cc is)
      label (event.Junk a b) is = absurd (cc is)
      label (event.Show a) is = absurd (cc is)

      at_first : k.path ≡ path (acts p.0) l
      at_first = p.3 ∙ ap (path (acts p.0)) (label k.event by_label)

      total : acts h.lines ≡ acts_from (acts p.0) p.1
      total = ap acts p.2 ∙ acts_more [] p.0 p.1

      sound : AreSound (acts h.lines)
      sound = its_sound h.lines right

      stay : (o : Option Act) → act_in (acts p.0) l ≡ o → top_in (path (acts h.lines) l) ≡ Some t
      stay None none =
          let no_way : ◌≡◌ {A = Option Act} None (Some t) = sym (ap top_in (at_first ∙ no_path (acts p.0) l none)) ∙ top in
          absurd (cc no_way)
      stay (Some c) some = ap top_in (ap (λ xs. path xs l) total
          ∙ path_stays (acts p.0) p.1 (subst AreDistinct total sound.distinct) l c some ∙ sym at_first) ∙ top

  -- an include that is answered was asked below its top
  include_asked : (t : Act) → top_in (path (acts h.lines) l) ≡ Some t → includes_caused h l x n ≡ true →
      list_any (uses_below t.uid x) h.accepted ≡ true
  include_asked t its is =
      let a = some_of_test (λ (a : Act). holds_in its_ask (asking h l)) (act_in (acts h.lines) l) is in
      let k = some_in_test its_ask (asking h l) a.2 in
      let p = and_parts (is_include_of x n (let z = k.0 in z.event)) (holds_of (had k.0) (top_in (let z = k.0 in z.path))) k.2 in
      let there = asking_in h l k.0 k.1 in
      let top = some_of_test (had k.0) (top_in (let z = k.0 in z.path)) p.1 in
      let same : top.0 ≡ t = some_is (sym (same_top k.0 there.0 there.1 top.0 top.1) ∙ its) in
      any_in (uses_below t.uid x) h.accepted k.0 there.0
      (λ i. (ap (holds_of (λ (z : Act). uid_eq z.uid t.uid)) top.1 ∙ ap (λ (z : Act). uid_eq z.uid t.uid) same ∙ uid_same t.uid) i
      && used (let z = k.0 in z.event) p.0 i)
    where
      had : Asked → Act → Bool
      had k top = from_place h k.at (has_lock 1 top.uid (entry x) mode.Write)

      its_ask : Asked → Bool
      its_ask k = is_include_of x n k.event && holds_of (had k) (top_in k.path)

      used : (e : Event) → is_include_of x n e ≡ true → holds_in (λ y. y == x) (object_used e) ≡ true
      used (event.Include m y s) on = (and_parts (y == x) (s == n) on).0
      used (event.Call m y o) on = absurd (cc on)
      used (event.Begin a b) on = absurd (cc on)
      used (event.Serial a b) on = absurd (cc on)
      used (event.BeginIn a b) on = absurd (cc on)
      used (event.Top a b) on = absurd (cc on)
      used (event.Commit a) on = absurd (cc on)
      used (event.Abort a) on = absurd (cc on)
      used (event.GiveUp a) on = absurd (cc on)
      used (event.Deliver a) on = absurd (cc on)
      used (event.Lose a) on = absurd (cc on)
      used (event.Tick a) on = absurd (cc on)
      used event.Settle on = absurd (cc on)
      used event.Quiesce on = absurd (cc on)
      used (event.Crash a) on = absurd (cc on)
      used (event.Restart a) on = absurd (cc on)
      used (event.Stop a b c) on = absurd (cc on)
      used (event.Junk a b) on = absurd (cc on)
      used (event.Show a) on = absurd (cc on)

-- ---- one line more

asked_behind : (h : Here) → AreRight new_book h.lines → ArePathed h.lines h.accepted → AreAsked h.accepted h.lines → (b : Body) →
    answer_fits h b ≡ true → AreAsked h.accepted (let g = behind h b in g.lines)
asked_behind h right pathed asked b fits i there t top =
    ⊎_elim (λ old. let z = asked i old t top in (later t z.0, z.1)) (λ new. by b fits new.0)
    (in_cases included_of h.lines h.number b i there)
  where
    line : List Line
    line = record { event = h.number; body = b } ∷ []

    later : (a : Act) → In a (acts h.lines) → In a (acts (h.lines ++ line))
    later a among = subst (In a) (sym (acts_more [] h.lines line)) (in_later line (acts h.lines) a among)

    by : (c : Body) → answer_fits h c ≡ true → included_of (acts h.lines) c ≡ Some i.it →
        In t (acts (h.lines ++ line)) × (list_any (uses_below t.uid i.it.x) h.accepted ≡ true)
    by (body.Includes l x n) its some =
        let its_top : top_in (path (acts h.lines) (name l)) ≡ Some t = ap (λ (w : last.Inclusion). top_in w.path) (some_is some) ∙ top in (
          later t (in_path (acts h.lines) (name l) t (top_on (path (acts h.lines) (name l)) t its_top)),
          subst (λ y. list_any (uses_below t.uid y) h.accepted ≡ true) (ap (λ (w : last.Inclusion). w.x) (some_is some))
              (include_asked h right pathed (name l) x n t its_top
              (and_parts (includes_caused h (name l) x n) (include_is_free h (name l) x n) its).0),
        )
    by c its none = let no_way : ◌≡◌ {A = Option last.Inclusion} None (Some i.it) = none in absurd (cc no_way)

-- ---- a lock that is given back

-- whoever includes a store of the object was asked to
uses_of : (ks : List Asked) (lines : List Line) → AreRight new_book lines → AreAsked ks lines → (a : Act) → In a (acts lines) → (x : ℕ) →
    has_some (joins_of lines a.id x) ≡ true → list_any (uses_below a.uid x) ks ≡ true
uses_of ks lines right asked a there x = go (included lines) (λ i j. asked i j)
  where
    Its : Placed last.Inclusion → Type 0
    Its i = (t : Act) → top_in i.it.path ≡ Some t → In t (acts lines) × (list_any (uses_below t.uid i.it.x) ks ≡ true)

    go : (is : List (Placed last.Inclusion)) → ((i : Placed last.Inclusion) → In i is → Its i) →
        has_some (filter_map (λ (i : Placed last.Inclusion). joins_by (committed lines) a.id x i (top_in i.it.path)) is) ≡ true →
        list_any (uses_below a.uid x) ks ≡ true
    go [] each some = absurd (cc some)
    go (i ∷ is) each some = by (top_in i.it.path) refl some (go is (λ j k. each j (inr k)))
      where
        rest : List ℕ
        rest = filter_map (λ (j : Placed last.Inclusion). joins_by (committed lines) a.id x j (top_in j.it.path)) is

        Later : Type 0
        Later = has_some rest ≡ true → list_any (uses_below a.uid x) ks ≡ true

        one : (t : Act) → top_in i.it.path ≡ Some t → (b c d : Bool) → (t.id == a.id) ≡ b → (i.it.x == x) ≡ c →
            has_some (cons_option (if b && (c && d) then Some i.it.node else None) rest) ≡ true → Later →
            list_any (uses_below a.uid x) ks ≡ true
        one t top true true d its of_x is later =
            let e = each i (inl refl) t top in
            let same : t.uid ≡ a.uid = uid_is t.uid a.uid (sym (tells lines right a there t e.0) ∙ its) in
            subst (λ y. list_any (uses_below a.uid y) ks ≡ true) (eqb-true i.it.x x of_x)
            (subst (λ w. list_any (uses_below w i.it.x) ks ≡ true) same e.1)
        one t top true false d its of_x is later = later is
        one t top false c d its of_x is later = later is

        by : (o : Option Act) → top_in i.it.path ≡ o →
            has_some (cons_option (joins_by (committed lines) a.id x i o) rest) ≡ true → Later → list_any (uses_below a.uid x) ks ≡ true
        by None top is later = later is
        by (Some t) top is later = one t top (t.id == a.id) (i.it.x == x) (list_all (λ (c : Act). has_end (committed lines) c.id) (chain_in
            i.it.path)) refl refl is later

granted_so : (h : Here) → AreRight new_book h.lines → AreAsked h.accepted h.lines → (n : ℕ) (u o : Uid) (m : Mode) → is_entry o ≡ true →
    is_granted_by h (body.Granted n u o m) ≡ true → granted_caused h n u o m ≡ true
granted_so h right asked n u o m entry is = by (is_restart h.event) refl
  where
    x : ℕ
    x = o.num

    by : (b : Bool) → is_restart h.event ≡ b → granted_caused h n u o m ≡ true
    by false off = (λ i. if sym off i then is_given_back h n u o m && holds_in (λ a. is_for h.lines a o.num) (act_by h.lines u)
        else granted_caused h n u o m) ∙ is
    by true again = back
      where
        p : (is_given_back h n u o m ≡ true) × (holds_in (λ a. is_for h.lines a o.num) (act_by h.lines u) ≡ true)
        p = and_parts (is_given_back h n u o m) (holds_in (λ a. is_for h.lines a o.num) (act_by h.lines u))
            ((λ i. if sym again i then is_given_back h n u o m && holds_in (λ a. is_for h.lines a o.num) (act_by h.lines u)
            else granted_caused h n u o m) ∙ is)

        f : (a : Act) × (act_by h.lines u ≡ Some a) × (is_for h.lines a o.num ≡ true)
        f = some_in_test (λ a. is_for h.lines a o.num) (act_by h.lines u) p.1

        a : Act
        a = f.0

        there : In a (acts h.lines) × (uid_eq a.uid u ≡ true)
        there = in_find (λ (z : Act). uid_eq z.uid u) a (acts h.lines) f.1

        g : ((n == 1) ≡ true) × ((not (has_lock n u o m h.lines) && is_none (first_conflict (u ∷ []) o m (table n h.lines))) ≡ true)
        g = and_parts (n == 1) (not (has_lock n u o m h.lines) && is_none (first_conflict (u ∷ []) o m (table n h.lines))) p.0

        k : (not (has_lock n u o m h.lines) ≡ true) × (is_none (first_conflict (u ∷ []) o m (table n h.lines)) ≡ true)
        k = and_parts (not (has_lock n u o m h.lines)) (is_none (first_conflict (u ∷ []) o m (table n h.lines))) g.1

        w : (is_top_in a (path (acts h.lines) a.label) ≡ true) ×
            ((has_some (leaves_of h.lines a.id x) || has_some (joins_of h.lines a.id x)) ≡ true)
        w = and_parts (is_top_in a (path (acts h.lines) a.label))
            (has_some (leaves_of h.lines a.id x) || has_some (joins_of h.lines a.id x)) f.2

        asker : asking_path h a o ≡ u ∷ []
        asker = (λ i. if again i then a.uid ∷ []
            else (if is_entry o then top_uids (path (acts h.lines) a.label) else uids (path (acts h.lines) a.label)))
            ∙ ap (λ v. v ∷ []) (uid_is a.uid u there.1)

        free : is_none (first_conflict (asking_path h a o) o m (table n h.lines)) ≡ true
        free = ap (λ us. is_none (first_conflict us o m (table n h.lines))) asker ∙ k.1

        leaves : Bool
        leaves = has_some (leaves_of h.lines a.id x)

        uses : Bool
        uses = list_any (uses_below a.uid x) h.accepted

        chosen : (b : Bool) → (if b then leaves || is_restart h.event && uses else uses || is_restart h.event && leaves) ≡ true
        chosen b = ⊎_elim (left b) (λ j. used b (uses_of h.accepted h.lines right asked a there.0 x j))
            (or_cases leaves (has_some (joins_of h.lines a.id x)) w.1)
          where
            left : (c : Bool) → leaves ≡ true →
                (if c then leaves || is_restart h.event && uses else uses || is_restart h.event && leaves) ≡ true
            left true its = or_first leaves (is_restart h.event && uses) its
            left false its = or_last uses (is_restart h.event && leaves) (λ i. again i && its i)

            used : (c : Bool) → uses ≡ true →
                (if c then leaves || is_restart h.event && uses else uses || is_restart h.event && leaves) ≡ true
            used true its = or_last leaves (is_restart h.event && uses) (λ i. again i && its i)
            used false its = or_first uses (is_restart h.event && leaves) its

        its_asked : entry_asked h n a x m ≡ true
        its_asked = λ i. g.0 i && (w.0 i && chosen (same_mode m mode.Exclude) i)

        back : granted_caused h n u o m ≡ true
        back = ap (holds_in (λ b. not (has_lock n u o m h.lines)
            && (is_none (first_conflict (asking_path h b o) o m (table n h.lines))
            && (if is_entry o then entry_asked h n b o.num m else object_asked h u o.num m)))) f.1
            ∙ (λ i. k.0 i && (free i && (if entry i then its_asked i else object_asked h u o.num m)))

line_so : (h : Here) → AreRight new_book h.lines → AreAsked h.accepted h.lines → (b : Body) →
    tested is_granted_by (λ g. is_granted_entry) h b ≡ true → row (λ g. is_granted_entry) h b ≡ true
line_so h right asked (body.Granted n u o mode) is = by (is_entry o) refl
  where
    by : (b : Bool) → is_entry o ≡ b → (not (is_entry o) || granted_caused h n u o mode) ≡ true
    by false off = λ i. not (off i) || granted_caused h n u o mode
    by true on = or_last (not (is_entry o)) (granted_caused h n u o mode) (granted_so h right asked n u o mode on
        ((λ i. not (sym on i) || is_granted_by h (body.Granted n u o mode)) ∙ is))
line_so h right asked b is = refl

-- ---- event by event

module _ (hd : Header) (journal : List Line) (all : AreRight new_book journal) where
  abbrev Known : Past → Event → List Body → Type 0
  Known p e bs = Step hd p e bs × (AnswersStep hd p e bs × TestedStep is_granted_by (λ g. is_granted_entry) hd p e bs)

  lines_so : (h : Here) (bs : List Body) (more : List Line) → journal ≡ h.lines ++ (numbered h.number bs ++ more) →
      ArePathed h.lines h.accepted → AreAsked h.accepted h.lines → are_so answer_fits h bs ≡ true →
      are_so (tested is_granted_by (λ g. is_granted_entry)) h bs ≡ true →
      (are_so (row (λ g. is_granted_entry)) h bs ≡ true) × AreAsked h.accepted (h.lines ++ numbered h.number bs)
  lines_so h [] more is pathed asked answers tests = (refl, subst (AreAsked h.accepted) (sym (append-nil h.lines)) asked)
  lines_so h (b ∷ bs) more is pathed asked answers tests =
      let right : AreRight new_book h.lines =
      right_front new_book h.lines (numbered h.number (b ∷ bs) ++ more) (subst (AreRight new_book) is all) in
      let a = and_parts (answer_fits h b) (are_so answer_fits (behind h b) bs) answers in
      let t = and_parts (tested is_granted_by (λ g. is_granted_entry) h b)
      (are_so (tested is_granted_by (λ g. is_granted_entry)) (behind h b) bs) tests in
      let line : List Line = record { event = h.number; body = b } ∷ [] in
      let r = lines_so (behind h b) bs more (is ∙ sym (append_assoc h.lines line (numbered h.number bs ++ more)))
      (pathed_later h.lines line h.accepted pathed) (asked_behind h right pathed asked b a.0) a.1 t.1 in (
        (λ i. line_so h right asked b t.0 i && r.0 i),
        subst (AreAsked h.accepted) (append_assoc h.lines line (numbered h.number bs)) r.1,
      )

  along : (es : List Event) (p end : Past) (ending : List Line) → journal ≡ end.lines ++ ending → Along Known p es end →
      ArePathed p.lines p.accepted → AreAsked p.accepted p.lines → Along (RowStep (λ g. is_granted_entry) hd) p es end
  along [] p end ending is a pathed asked = a
  along (e ∷ es) p end ending is a pathed asked =
      let r = more_lines Known es (next p e a.0) end a.2 in
      let c = came (is_refused a.0) in
      let l = lines_so (here_at hd p e a.0) a.0 (r.0 ++ ending)
      (is ∙ ap (λ ls. ls ++ ending) r.1 ∙ append_assoc (p.lines ++ block (p.count + 1) a.0) r.0 ending
      ∙ append_assoc p.lines (block (p.count + 1) a.0) (r.0 ++ ending)) c.0 c.1 a.1.1.0 a.1.1.1 in (
        a.0,
        l.0,
        along es (next p e a.0) end ending is a.2
            (pathed_later p.lines (block (p.count + 1) a.0) (let q = here_at hd p e a.0 in q.accepted) c.0) l.1,
      )
    where
      new : (k : Asked) → In k (p.accepted ++ asked_of p e ∷ []) → PathedBy p.lines k
      new k i = ⊎_elim (λ old. pathed k old)
          (λ last. ⊎_elim (λ same. subst (PathedBy p.lines) same (p.lines, [], sym (append-nil p.lines), refl)) (λ none. absurd none) last)
          (in_either k p.accepted (asked_of p e ∷ []) i)

      came : (b : Bool) → ArePathed p.lines (if b then p.accepted else p.accepted ++ asked_of p e ∷ [])
          × AreAsked (if b then p.accepted else p.accepted ++ asked_of p e ∷ []) p.lines
      came true = (pathed, asked)
      came false = (
        new,
        (λ i there t top. let z = asked i there t top in (
          z.0,
          list_any-append (uses_below t.uid i.it.x) p.accepted (asked_of p e ∷ [])
              ∙ or_first (list_any (uses_below t.uid i.it.x) p.accepted) (list_any (uses_below t.uid i.it.x) (asked_of p e ∷ [])) z.1,
        )),
      )

-- ---- in every run

pub granted_whole : RowHolds is_granted_entry
granted_whole hd r form =
    let st = r.start in
    let es = run_events hd r in
    let journal = journal_by hd r in
    let first = runs_too (Step hd) (λ p e bs. Step hd p e bs × Step hd p e bs) (λ p e bs s. (s, s)) st es journal
    (journals_follow hd r form) in
    let answers = together hd (Step hd) answer_fits (λ h c. refl) st es journal first (answers_are_caused hd r form) in
    let known = together hd (AnswersStep hd) (tested is_granted_by (λ g. is_granted_entry)) (λ h c. refl) st es journal
    (runs_too (λ p e bs. Step hd p e bs × (Step hd p e bs × AnswersStep hd p e bs)) (λ p e bs. Step hd p e bs × AnswersStep hd p e bs)
    (λ p e bs x. (x.0, x.1.1)) st es journal answers) (granted_entry_row hd r form) in (
      known.0,
      known.1,
      along hd journal (right_lines hd r) es (at_start st) known.0 known.1 known.3 known.2 (λ k none. absurd none)
          (λ i none. absurd none),
      known.3,
      known.4,
    )
