-- An action begins, with a new label and a new Uid: its coordinator knows the book.
use Rattle.arj_law_parts.proofs.Words
use Words.{◌≡◌, ◌⊎◌, arith, ℕ, zero, suc, ◌+◌, ◌||◌, List, [], ◌∷◌, ◌++◌, length, Bool, true, false, cond, slice_get, Option, Some, None}
use Words.{refl, sym, ◌∙◌, ap, subst, inl, inr, ⊎_elim, option_map, AllByRecursion, lookup, bytes_eq, insert_entry, is_eq, nat_cmp}
use Words.{slice_cmp, bytes_eq-Decides, uid_is, is_on, uid_eq, Body, End, Kind, Label, Path, Uid, label_cmp, name, uids_of, begin_action}
use Words.{Committing, Coord, Doing, Idle, Now, doing_of, is_committing_now, parent_of, Branch, at_place, branch_of, next_uid, path_below}
use Words.{Labelled}
use Words.body
use Rattle.arj_law_runs.proofs.Terms
use Terms.{same_key, Act, act_in, path_in, uids, IsCounted, get_more, grown_cases, new, work_there, label_at, Book, turned, AreSaid, Calls}
use Terms.{IsEnd, IsGiven, IsKnown, Knows, has_act}
use Rattle.arj_law_parts.proofs.parts.GoodTrees.{same_ends}
use Rattle.arj_law_runs.proofs.journal
use journal.{Effects.are_later, Endings.end_same, Ties.ties_begun}
use journal.Books.{Sane, decided_later, later_turn, never, still_named}
use Rattle.arj_law_runs.proofs.kept.Labels.{one_name, put_label}

-- ---- a new label and a new Uid

-- what a label stands for goes by its name
pub by_name : (labels : List (Label × Labelled)) (q l : Label) → name q ≡ name l → label_at q labels ≡ label_at l labels
by_name labels q l same = ap (λ m. lookup (λ x. is_eq (slice_cmp nat_cmp m (name x))) labels) same

pub new_label : (labels : List (Label × Labelled)) (acts : List Act) (l : Label) → label_at l labels ≡ None →
    AllByRecursion (IsGiven labels) acts → act_in acts (name l) ≡ None
new_label labels [] l new given = refl
new_label labels (a ∷ acts) l new given = by (bytes_eq a.label (name l)) refl (new_label labels acts l new given.1)
  where
    by : (b : Bool) → bytes_eq a.label (name l) ≡ b → act_in acts (name l) ≡ None → cond b (Some a) (act_in acts (name l)) ≡ None
    by true same ih =
        let g = given.0 in
        let no_way : ◌≡◌ {A = Option Labelled} (Some g.1) None = sym g.3
        ∙ by_name labels g.0 l (g.2 ∙ (bytes_eq-Decides a.label (name l)).0 same) ∙ new in
        absurd (cc no_way)
    by false other ih = ih

pub still_given : (labels : List (Label × Labelled)) (l : Label) (g : Labelled) (acts : List Act) → label_at l labels ≡ None →
    AllByRecursion (IsGiven labels) acts → AllByRecursion (IsGiven (insert_entry label_cmp labels l g)) acts
still_given labels l g [] new given = tt
still_given labels l g (a ∷ acts) new given = (one given.0, still_given labels l g acts new given.1)
  where
    one : IsGiven labels a → IsGiven (insert_entry label_cmp labels l g) a
    one h = (h.0, h.1, h.2, put_label h.0 l g labels ∙ by (is_eq (label_cmp h.0 l)) refl, h.4)
      where
        by : (b : Bool) → is_eq (label_cmp h.0 l) ≡ b → cond b (Some g) (label_at h.0 labels) ≡ Some h.1
        by true same = let no_way : ◌≡◌ {A = Option Labelled} (Some h.1) None = sym h.3 ∙ by_name labels h.0 l (one_name h.0 l same)
            ∙ new in absurd (cc no_way)
        by false other = h.3

pub given_now : (labels : List (Label × Labelled)) (l : Label) (g : Labelled) → label_at l (insert_entry label_cmp labels l g) ≡ Some g
given_now labels l g =
    put_label l l g labels ∙ ap (λ b. cond b (Some g) (label_at l labels)) (same_key l l ∙ (bytes_eq-Decides (name l) (name l)).1 refl)

-- the label of the newest action is its own
pub named_first : (a : Act) (acts : List Act) → act_in (a ∷ acts) a.label ≡ Some a
named_first a acts = ap (λ b. cond b (Some a) (act_in acts a.label)) ((bytes_eq-Decides a.label a.label).1 refl)

-- the next Uid of a node is none of those that are counted
pub new_uid : (k inc count : ℕ) (u : Uid) (acts : List Act) → u.node ≡ k → u.inc ≡ inc → u.num ≡ count + 1 →
    AllByRecursion (λ (a : Act). IsCounted k inc count a.uid) acts → has_act acts u ≡ false
new_uid k inc count u [] node at num all = refl
new_uid k inc count u (a ∷ acts) node at num all = by (uid_eq a.uid u) refl (new_uid k inc count u acts node at num all.1)
  where
    by : (b : Bool) → uid_eq a.uid u ≡ b → has_act acts u ≡ false → (b || has_act acts u) ≡ false
    by true same ih =
        let is = uid_is a.uid u same in
        absurd (⊎_elim (λ lower. omega (arith, lower, at, ap (λ (w : Uid). w.inc) is))
        (λ here. omega (arith, here.1, num, ap (λ (w : Uid). w.num) is)) (all.0 (ap (λ (w : Uid). w.node) is ∙ node)))
    by false other ih = ih

-- ---- the coordinator

get_there : {A : Type 0} (xs : List A) (k : ℕ) (a b : A) → slice_get xs k ≡ Some a → slice_get (xs ++ b ∷ []) k ≡ Some a
get_there [] k a b is = absurd (cc is)
get_there (x ∷ xs) zero a b is = is
get_there (x ∷ xs) (suc k) a b is = get_there xs k a b is

-- what is behind a list stands at its end
pub place_cases : {A : Type 0} (xs : List A) (b a : A) (k : ℕ) → at_place k (xs ++ b ∷ []) ≡ Some a →
    (at_place k xs ≡ Some a) ⊎ ((k ≡ suc (length xs)) × (b ≡ a))
place_cases xs b a zero is = absurd (cc is)
place_cases xs b a (suc k) is = ⊎_elim (λ old. inl old) (λ last. inr (ap suc last.0, last.1)) (get_more k b a xs is)

module _ (B : Book) (sane : Sane B) (c : Coord) (l : Label) (how : Kind) (parent : Option Label)
    (works : length c.doings ≡ length c.tree.branches) (knows : Knows B c) (calls : Calls B c)
    (named : act_in B.acts (name l) ≡ None) (unknown : has_act B.acts (next_uid c.tree) ≡ false)
    (its_path : uids
    (path_in B.acts (record { id = length B.acts; label = name l; kind = how; uid = next_uid c.tree; parent = option_map name parent }))
    ≡ uids_of (path_below how (parent_of parent c) (next_uid c.tree))) where
  abbrev fresh : Doing
  fresh = record { label = l; req = 0; now = Idle; took = [] }

  abbrev u : Uid
  u = next_uid c.tree

  abbrev began : Coord
  began = (begin_action l how parent (parent_of parent c) c).part

  abbrev V : Book
  V = turned B (body.Began l how (next_uid c.tree) parent)

  abbrev act : Act
  act = record { id = length B.acts; label = name l; kind = how; uid = next_uid c.tree; parent = option_map name parent }

  -- the book says nothing of it yet
  off : (us : List Uid) → ((w : Uid) → is_on us w ≡ true → has_act B.acts w ≡ true) → is_on us (next_uid c.tree) ≡ false
  off us known = by (is_on us (next_uid c.tree)) refl
    where
      by : (b : Bool) → is_on us (next_uid c.tree) ≡ b → b ≡ false
      by true on = never (known (next_uid c.tree) on) unknown
      by false on = refl

  same_end : (w : Uid) (h : Kind) (o : Option End) → IsEnd B w h o → IsEnd V w h o
  same_end w h o is = end_same B V w h o (record { called = refl; committed = refl; aborted = refl; ended = refl; found = refl }) is

  -- actions at work: those that were there, and the new one
  doing_cases : (w : Uid) (q : Doing) → doing_of w began ≡ Some q →
      (doing_of w c ≡ Some q) ⊎ ((w.num ≡ suc (length c.doings)) × (fresh ≡ q))
  doing_cases w q is = by (_) is
    where
      by : (b : Bool) → cond b (at_place w.num (c.doings ++ fresh ∷ [])) None ≡ Some q →
          (cond b (at_place w.num c.doings) None ≡ Some q) ⊎ ((w.num ≡ suc (length c.doings)) × (fresh ≡ q))
      by true at = place_cases c.doings fresh q w.num at
      by false at = absurd (cc at)

  -- who was there is at work as it was
  old_doing : (w : Uid) (b : Branch) (q : Doing) → branch_of w c.tree ≡ Some b → doing_of w began ≡ Some q → doing_of w c ≡ Some q
  old_doing w b q found does =
      let d = work_there c works w b found in
      d.1 ∙ sym (still (_) d.0 d.1) ∙ does
    where
      still : (x : Bool) (d : Doing) → cond x (at_place w.num c.doings) None ≡ Some d →
          cond x (at_place w.num (c.doings ++ fresh ∷ [])) None ≡ Some d
      still true d is = at_there w.num is
        where
          at_there : (j : ℕ) → at_place j c.doings ≡ Some d → at_place j (c.doings ++ fresh ∷ []) ≡ Some d
          at_there zero e = absurd (cc e)
          at_there (suc j) e = get_there c.doings j d fresh e
      still false d is = absurd (cc is)

  -- the new one
  new_doing : (w : Uid) (q : Doing) → w ≡ next_uid c.tree → doing_of w began ≡ Some q → fresh ≡ q
  new_doing w q is does = ⊎_elim (λ old. absurd (none w q is old)) (λ n. n.1) (doing_cases w q does)
    where
      none_there : (xs : List Doing) (d : Doing) → slice_get xs (length xs) ≡ Some d → ⊥
      none_there [] d e = absurd (cc e)
      none_there (x ∷ xs) d e = none_there xs d e

      at_end : (j : ℕ) (d : Doing) → j ≡ length c.doings + 1 → at_place j c.doings ≡ Some d → ⊥
      at_end zero d long e = absurd (cc e)
      at_end (suc j) d long e = let here : j ≡ length c.doings = omega (arith, long) in
          none_there c.doings d (subst (λ i. slice_get c.doings i ≡ Some d) here e)

      none : (w : Uid) (d : Doing) → w ≡ next_uid c.tree → doing_of w c ≡ Some d → ⊥
      none w d is e = by (_) e
        where
          by : (x : Bool) → cond x (at_place w.num c.doings) None ≡ Some d → ⊥
          by true f = at_end w.num d (ap (λ (y : Uid). y.num) is ∙ ap (λ n. n + 1) (sym works)) f
          by false f = absurd (cc f)

  new_known : (w : Uid) (q : Doing) → w ≡ next_uid c.tree → fresh ≡ q → IsKnown V w how None q.label
  new_known w q is same = subst (λ (d : Doing). IsKnown V w how None d.label) same (subst (λ x. IsKnown V x how None l) (sym is) (record {
    act = act;
    named = named_first act B.acts;
    uid = refl;
    kind = refl;
    end = ((λ i. off B.committed sane.committed i || (off B.aborted sane.aborted i || off B.ended sane.ended i)), off B.found sane.found);
  }))

  pub begun_knows : Knows V began
  begun_knows = record {
    acts = λ w b q found does. ⊎_elim
        (λ old. let s = knows.acts w b q old (old_doing w b q old does) in record {
          act = s.act;
          named = still_named B.acts act named (name q.label) s.act s.named;
          uid = s.uid;
          kind = s.kind;
          end = same_end w b.kind b.ended s.end;
        })
        (λ fresh_one. subst (λ (x : Branch). IsKnown V w x.kind x.ended q.label) fresh_one.1
        (new_known w q fresh_one.0 (new_doing w q fresh_one.0 does)))
        (grown_cases how p c.tree w b found);
    lists = λ r. subst (AreSaid V) (sym (same_ends how p c.tree r)) (are_later B V (later_turn B line) _ (knows.lists r));
    plans = λ w q m does is. ⊎_elim (λ old. are_later B V (later_turn B line) _ (knows.plans w q m old is)) (λ last. let no_way : ◌≡◌ {A =
        Now} Idle (Committing m) = ap (λ (d : Doing). d.now) last.1 ∙ is in absurd (cc no_way)) (doing_cases w q does);
    telling = λ w i there. decided_later B V (later_turn B line) w (knows.telling w i there);
    ties = ties_begun B.acts B.accesses c.tree c.roots how p act refl named unknown its_path sane.acted knows.ties;
  }
    where
      p : Path
      p = path_below how (parent_of parent c) (next_uid c.tree)

      line : Body
      line = body.Began l how (next_uid c.tree) parent

  pub begun_calls : Calls V began
  begun_calls w b q found does opened = ⊎_elim
      (λ old. calls w b q old (old_doing w b q old does) opened)
      (λ fresh_one. ap (is_on B.called) fresh_one.0 ∙ off B.called sane.called
      ∙ ap (λ (d : Doing). is_committing_now d.now) (new_doing w q fresh_one.0 does))
      (grown_cases how (path_below how (parent_of parent c) (next_uid c.tree)) c.tree w b found)
