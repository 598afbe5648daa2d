-- What each thing that a coordinator does leaves of what its plans include and its roots have noted, by the journal behind it.
use Rattle.arj_law_parts.proofs.Words
use Words.{◌≡◌, ◌≢◌, ◌++◌, ◌∙◌, ℕ, Bool, true, false, cond, List, [], ◌∷◌, Option, Some, None, ap, refl, subst, sym, ⊎_elim, AllByRecursion}
use Words.{first_uid, is_on, Reply, actor, answers, again_all, end_line, heard, last_req, At, AtActivate, AtBind, AtInvoke, AtLoad, AtNote}
use Words.{CallEnd, Ended, Goal, given_up, Confirming, Machine, Plan, plan_of, Coord, Doing, doing_of, plan_for, root_at, Disk, Effect}
use Words.{Intent, Say, say_for, says, tick_outs, Parts, Took, handle, Input, acts, Branch, branch_of, is_own, root_of, Asked, Body, Header}
use Words.{Kind, Label, Message, Uid, name, Seen}
use Words.calls
use Words.commit
use Words.input
use Words.body
use Rattle.arj_law_serial.proofs.Terms
use Terms.{BindsAreKnown, answers_fit, all_append, handled_answer, response_is, took_heard, SayOf, path, uids, paths_of, IsGoodCoord}
use Terms.{named_found, good_coord, one_tree, same_number, is_act, up, Access, Book, book, is_top, new_book, turned, AreLined, IsKept}
use Terms.{IsKnown, KnowsUp, after, named_is, on_here, Stands, stands_lines, stands_new, stands_turn, act_turns, message_turns, tick_turns}
use Terms.{its_own, FitsIncludes, HasJoined, IncludesAreNoted, IncludesLeft, PlansInclude}
use Terms.seen
use Rattle.arj_law_runs.proofs.journal.Effects.{Goes}
use Rattle.arj_law_runs.specs.journal.{Knows.root_in, Plans.path_of}
use Rattle.arj_law_serial.proofs.joint
use joint.{JoinLines.fits_after, JoinLines.fits_step, JoinStarts.starts}
use joint.JoinHeard.{NewNoted, NoAccess, NoneAccess, apart_none, heard_new, nothing_new, says_none}
use joint.JoinStates.{acks, agains, does, hears, notes_closed, own_closed, plans_closed}
use Rattle.arj_law_serial.proofs.whole
use whole.CalledSays.{acts_fine, message_fine, tick_fine}
use whole.CoordCases.{CoordCase, coord_case}
use Rattle.arj_law_serial.proofs.whole.CoordCases as cases

-- both, of a coordinator
abbrev pub Own : Book → Coord → Type 0
Own B c = IncludesAreNoted B c × PlansInclude B c

-- From one coordinator to the next: commits under way include what the book says, notes stay, and it is of the same node and incarnation.
pub record Step (V : Book) (c e : Coord) : Type 0 where
  pub plans : PlansInclude V c → PlansInclude V e
  pub notes : (root : Uid) (x s : ℕ) (us : List Uid) → HasJoined x s us (root_in root c.roots) → HasJoined x s us (root_in root e.roots)
  pub own : (w : Uid) → is_own w e.tree ≡ is_own w c.tree

step_same : (V : Book) (c e : Coord) → e ≡ c → Step V c e
step_same V c e same = subst (Step V c) (sym same) (record { plans = λ p. p; notes = λ root x s us h. h; own = λ w. refl })

-- ---- lines that answer nothing

given_none : (x : ℕ) (g : Goal) (at : At) (e : CallEnd) → given_up at ≡ Ended e → (l : Label) → NoAccess (end_line x g e l)
given_none x g at e is l = by at is
  where
    lost : (n : ℕ) (b : Bool) → Ended (calls.Lost n b) ≡ Ended e → NoAccess (end_line x g e l)
    lost n b same = let z : calls.Lost n b ≡ e = cc same in subst (λ f. NoAccess (end_line x g f l)) z (λ B. refl)

    by : (q : At) → given_up q ≡ Ended e → NoAccess (end_line x g e l)
    by (AtBind avoid) same = lost 1 false same
    by (AtLoad k s []) same = lost s false same
    by (AtLoad k s (t ∷ ts)) same = absurd (cc same)
    by (AtActivate k st) same = lost k.server false same
    by (AtNote k i) same = lost 1 false same
    by (AtInvoke k i) same = lost k.server true same

marked_none : (d : Doing) (marks : List (ℕ × ℕ)) → AllByRecursion (λ (z : ℕ × ℕ). NoAccess (body.Excluded d.label z.0 z.1)) marks
marked_none d [] = tt
marked_none d (z ∷ marks) = ((λ B. refl), marked_none d marks)

pub acts_none : (i : Input) (intents : List (Uid × Intent)) (c : Coord) →
    ((l : Label) (how : Kind) (parent : Option Label) → i ≢ input.Begin l how parent) → NoneAccess (acts i intents c).outs
acts_none i intents c other = acts_fine NoAccess apart_none NoneAccess (λ es none. none) c i intents other
    (λ u d s found now e is l. given_none s.x s.goal s.at e is l)
    (λ u d m found now. marked_none d (commit.given_up m).marks)
    (λ l is u es none. all_append (SayOf NoAccess) (says u body.Committing c) es (says_none u body.Committing c (λ m B. refl)) none)

-- ---- a step with its lines

module _ (k : ℕ) (B : Book) (stands : Stands B) (c e : Coord) (outs : List Effect) (lined : AreLined k B outs)
    (acts_are : (after B outs).acts ≡ B.acts) where
  path_same : (a : Access) → path_of (after B outs) a ≡ path_of B a
  path_same a = ap (λ us. uids (path us (let b = a.act in b.label))) acts_are

  pub own_after : Step (after B outs) c e → NewNoted B outs e → Own B c → Own (after B outs) e
  own_after s new own = (notes, s.plans (λ u d m found now. fits_after k B outs lined stands (name d.label) m (own.1 u d m found now)))
    where
      notes : IncludesAreNoted (after B outs) e
      notes a n there store mine = subst (λ us. HasJoined a.x n us (root_in (first_uid us) e.roots)) (sym (path_same a)) (⊎_elim
          (λ old. s.notes (first_uid (path_of B a)) a.x n (path_of B a) (own.0 a n old store (sym (s.own (let b = a.act in b.uid)) ∙ mine)))
          (λ fresh. fresh)
          (new a n there store))

-- ---- a node that is up

module _ (e k : ℕ) (d : Disk) (t : Parts) (M : Seen) (kept : IsKept (up k d t M)) (own : Own (book M.lines) t.coord) where
  up_now : KnowsUp (book M.lines) d.intents t.coord
  up_now = let w = kept.1 in let o = its_own k d (Some t) M w in o.live t refl

  coord : IsGoodCoord (let g = kept.0 in g.0) (paths_of (let g = kept.0 in g.0)) t.coord
  coord = good_coord e k d t M kept.0

  pub stands_now : Stands (book M.lines)
  stands_now = let w = kept.1 in stands_lines new_book M.lines w.right stands_new

  -- what a handler leaves, by its lines
  done : (v : Coord) (outs : List Effect) → Goes k (book M.lines) outs v → Step (after (book M.lines) outs) t.coord v →
      NewNoted (book M.lines) outs v → Own (after (book M.lines) outs) v
  done v outs g s new = own_after k (book M.lines) stands_now t.coord v outs g.lined g.acts s new own

  pub message_own : BindsAreKnown (up k d t M) → (v : Parts) (from : ℕ) (m : Message) (outs : List Effect) → seen.In
      (record { from = from; to = k; message = m }) M.sent → handle k d t from m ≡ Took v outs → Own (after (book M.lines) outs) v.coord
  message_own binds v from m outs there is = by (answers m) refl
    where
      turns : Goes k (book M.lines) outs v.coord
      turns = message_turns e k d t M kept.0 kept.1 v from m outs there is

      by : (o : Option (Asked × Reply)) → answers m ≡ o → Own (after (book M.lines) outs) v.coord
      by (Some q) of =
          let r = heard from q.0 q.1 d.intents t.coord in
          let took = took_heard t v r outs (sym (handled_answer k d t from q.0 q.1)
          ∙ subst (λ (z : Message). handle k d t from z ≡ Took v outs) (response_is m q of) is) in
          let same : r.part ≡ v.coord = ap (λ (z : Parts). z.coord) took.0 in
          done v.coord outs turns
          (subst (Step (after (book M.lines) outs) t.coord) same (record {
            plans = λ p. hears (FitsIncludes (after (book M.lines) outs)) (PlansInclude (after (book M.lines) outs))
                (plans_closed (after (book M.lines) outs)) from q.0 q.1 d.intents t.coord p;
            notes = λ root x s us h.
                hears _ (λ z. HasJoined x s us (root_in root z.roots)) (notes_closed root x s us) from q.0 q.1 d.intents t.coord h;
            own = λ w. hears _ (λ z. is_own w z.tree ≡ is_own w t.coord.tree) (own_closed w (is_own w t.coord.tree)) from q.0 q.1 d.intents
                t.coord refl;
          }))
          (subst (λ es. NewNoted (book M.lines) es v.coord) took.1 (subst (NewNoted (book M.lines) r.outs) same
          (heard_new k d t M kept M.sent (binds.nodes k (record { number = k; disk = d; live = Some t }) t here refl) from q.0 q.1
          (answers_fit (let g = kept.0 in g.0) e k d t M (let g = kept.0 in g.1) binds from m there q.0 q.1 of))))
        where
          here : (up k d t M).nodes k ≡ Some (record { number = k; disk = d; live = Some t })
          here i = cond (same_number k i) (Some (record { number = k; disk = d; live = Some t })) (M.nodes k)
      by None of = done v.coord outs turns (here (coord_case k d t v from m outs is)) (nothing_new (book M.lines) outs v.coord quiet)
        where
          never : {X : Type 0} (q : Asked × Reply) → answers m ≡ Some q → X
          never q some = let no_way : ◌≡◌ {A = Option (Asked × Reply)} None (Some q) = sym of ∙ some in absurd (cc no_way)

          quiet : NoneAccess outs
          quiet = message_fine NoAccess apart_none k d t v from m outs is (λ q r z s some. never (q, r) some)
              (λ q r z n some. never (q, r) some)

          here : CoordCase d t from m v outs → Step (after (book M.lines) outs) t.coord v.coord
          here (cases.OfParts mine same plain sent_to) = step_same (after (book M.lines) outs) t.coord v.coord same
          here (cases.Asks u query same outs_are) = step_same (after (book M.lines) outs) t.coord v.coord same
          here (cases.Heard q r some same outs_are) = never (q, r) some
          here (cases.Acks u which same outs_are) = subst (Step (after (book M.lines) outs) t.coord) same (record {
            plans = λ p. acks (FitsIncludes (after (book M.lines) outs)) (PlansInclude (after (book M.lines) outs))
                (plans_closed (after (book M.lines) outs)) from u d.intents t.coord p;
            notes = λ root x s us h.
                acks _ (λ z. HasJoined x s us (root_in root z.roots)) (notes_closed root x s us) from u d.intents t.coord h;
            own = λ w.
                acks _ (λ z. is_own w z.tree ≡ is_own w t.coord.tree) (own_closed w (is_own w t.coord.tree)) from u d.intents t.coord refl;
          })

  pub tick_own :
      Own (after (book M.lines) (tick_outs (record { number = k; disk = d; live = Some t }) t)) (again_all t.coord.doings t.coord).part
  tick_own =
      let outs = tick_outs (record { number = k; disk = d; live = Some t }) t in
      let r = again_all t.coord.doings t.coord in
      done r.part outs (tick_turns e k d t M kept.0 kept.1)
      (record {
        plans = λ p. agains (FitsIncludes (after (book M.lines) outs)) (PlansInclude (after (book M.lines) outs))
            (plans_closed (after (book M.lines) outs)) t.coord.doings t.coord p;
        notes =
            λ root x s us h. agains _ (λ z. HasJoined x s us (root_in root z.roots)) (notes_closed root x s us) t.coord.doings t.coord h;
        own =
            λ w. agains _ (λ z. is_own w z.tree ≡ is_own w t.coord.tree) (own_closed w (is_own w t.coord.tree)) t.coord.doings t.coord refl;
      })
      (nothing_new (book M.lines) outs r.part (tick_fine NoAccess apart_none (record { number = k; disk = d; live = Some t }) t))

  -- a commit that is called includes what survives
  module _ (outs : List Effect) (lined : AreLined k (book M.lines) outs) (b : Branch) (found : branch_of (actor b.path) t.coord.tree
      ≡ Some b) (top : is_top b.kind ≡ true) (rest : List Effect) (are : outs ≡ says (actor b.path) body.Committing t.coord ++ rest) where
    called_fits : (m : Machine) → (let p = plan_of m in p.used)
        ≡ (let p = plan_for b.path (last_req (doing_of (actor b.path) t.coord)) (root_at (root_of b.path) t.coord) t.coord in p.used) →
        (q : Doing) → doing_of (actor b.path) t.coord ≡ Some q → FitsIncludes (after (book M.lines) outs) (name q.label) m
    called_fits m same q works = subst (λ es. FitsIncludes (after (book M.lines) es) (name q.label) m) (sym outs_are)
        (fits_step (after (turned (book M.lines) line) rest) (name q.label) (Confirming plan) m same
        (fits_after k (turned (book M.lines) line) rest all.1 (stands_turn (book M.lines) line all.0.0 stands_now) (name q.label)
        (Confirming plan) (known.act, known.named, called, left)))
      where
        plan : Plan
        plan = plan_for b.path (last_req (doing_of (actor b.path) t.coord)) (root_at (root_of b.path) t.coord) t.coord

        line : Body
        line = body.Committing q.label

        outs_are : outs ≡ Say (body.Committing q.label) ∷ rest
        outs_are = are ∙ ap (λ o. say_for body.Committing o ++ rest) works

        all : AreLined k (book M.lines) (Say (body.Committing q.label) ∷ rest)
        all = subst (AreLined k (book M.lines)) outs_are lined

        known : IsKnown (book M.lines) (actor b.path) b.kind b.ended q.label
        known = let n = up_now in let h = n.knows in h.acts (actor b.path) b q found works

        called : is_on (let V = turned (book M.lines) line in V.called) (let a = known.act in a.uid) ≡ true
        called = let X = book M.lines in ap (λ us. is_on us (let a = known.act in a.uid))
            (named_is X.acts q.label X.called known.act known.named) ∙ on_here (let a = known.act in a.uid) X.called

        left : IncludesLeft (turned (book M.lines) line) (let a = known.act in a.uid) plan
        left =
            let s = starts k d t M kept (actor b.path) b found top own.0 (last_req (doing_of (actor b.path) t.coord)) in
            let z : IncludesLeft (book M.lines) (let a = known.act in
            a.uid) plan = subst (λ w. IncludesLeft (book M.lines) w plan) (sym known.uid) s in
            record { rising = z.rising; same = z.same }

  pub act_own : (hd : Header) (i : Input) → is_act i ≡ true → input.refusal_up hd i t.coord ≡ None →
      (let did = acts i d.intents t.coord in Own (after (book M.lines) did.outs) did.part)
  act_own hd i is free =
      let did = acts i d.intents t.coord in
      done did.part did.outs turns
      (record {
        plans = λ p. does (FitsIncludes (after (book M.lines) did.outs)) (PlansInclude (after (book M.lines) did.outs))
            (plans_closed (after (book M.lines) did.outs)) i d.intents t.coord other
            (λ l b same at top are m uses q works. called_fits did.outs turns.lined b (named_found (let g = kept.0 in g.0)
            (paths_of (let g = kept.0 in g.0)) (one_tree e k d t M kept.0) d.intents t.coord coord l b at) top _ are m uses q works) p;
        notes = λ root x s us h. does _ (λ z. HasJoined x s us (root_in root z.roots)) (notes_closed root x s us) i d.intents t.coord other
            (λ l b same at top are m uses q works. tt) h;
        own = λ w. does _ (λ z. is_own w z.tree ≡ is_own w t.coord.tree) (own_closed w (is_own w t.coord.tree)) i d.intents t.coord other
            (λ l b same at top are m uses q works. tt) refl;
      })
      (nothing_new (book M.lines) did.outs did.part (acts_none i d.intents t.coord other))
    where
      other : (l : Label) (how : Kind) (parent : Option Label) → i ≢ input.Begin l how parent
      other l how parent same = let no_way : false ≡ true = sym (ap is_act same) ∙ is in absurd (cc no_way)

      turns : Goes k (book M.lines) (acts i d.intents t.coord).outs (acts i d.intents t.coord).part
      turns = act_turns e k d t M kept.0 kept.1 hd i is free
