-- A commit that waits for its stores may be given up: then it goes on without those that haven't answered, and waits for naming; nothing
-- else has changed.
use Rattle.arj_law_parts.proofs.Words
use Words.{⊤, ◌≡◌, ◌≤◌, ◌<◌, ◌∙◌, ◌+◌, ◌++◌, ◌==◌, ◌&&◌, not, ℕ, zero, suc, Bool, true, false, cond, if◌then◌else◌, List, [], ◌∷◌, length}
use Words.{map, flat_map, Option}
use Words.{Some, None, refl, sym, ap, subst, arith, append-nil, append_assoc, is_some, slice_get, AllByRecursion, Body, Header, Label}
use Words.{Line, Uid}
use Words.{actor, at_place, set_place, numbered, ObjectState, Used, Plan, Confirming, Preparing, Machine, plan_of, Committing, Coord}
use Words.{Doing, doing_of}
use Words.{is_own, on_doing, commits_in, Did, Disk, Do, Effect, Intent, Say, Send, Parts, Node, Seen, with_coord, Branch, branch_of}
use Words.{branch_named}
use Words.{number_of, branch_numbered, Input, acts as does, refusal_up, on_branch, give_up, give_up_doing, gives_up, gaveup_lines}
use Words.{mark_lines, moved_commit}
use Words.{step_commit, asks_machine, says, say_for, Asks, CommitStep}
use Words.body
use Words.commit
use Words.input
use Rattle.arj_law_parts.proofs.moves.{Happens.keeps_asked, Places.place_same}
use Rattle.arj_law_parts.proofs.parts.SaidIncs.{all_both, all_flat}
use Rattle.arj_law_parts.specs.moves.Seen.{at, posted, said, up}
use Rattle.arj_law_runs.proofs.follow.{Halts.KnowsAll, Halts.halts_keep, Labeled.KnowsFinds, Labeled.finds_keep}
use Rattle.arj_law_runs.proofs.journal.Owners.{acts_more}
use Rattle.arj_law_runs.proofs.kept.Walked.{same_number}
use Rattle.arj_law_runs.specs.calls.Bindings.{bindings_made, bound_by}
use Rattle.arj_law_serial.specs.joint.Fit.{OpFits, OpsFit}
use Rattle.arj_model.specs.Actions.{Act, acts, acts_after}
use Rattle.arj_law_cause.specs.rows.Early.{IsEarly}
use Rattle.arj_law_cause.proofs.confirm.Opened.{same_there}
use Rattle.arj_law_cause.proofs.confirm.Reached.{ByAct, OnWay, Reached, reached_has}
use Rattle.arj_law_cause.proofs.waits.commits.Serving.{AreStill}
use Rattle.arj_law_cause.proofs.waits.waiting.Acting as acting

-- ---- lines

-- a line that makes no binding, begins no action and answers nothing
abbrev pub is_minor : Body → Bool
is_minor (body.GaveUp l n) = true
is_minor (body.Excluded l x s) = true
is_minor b = false

-- it says such a line, or sends something
abbrev pub IsMinor : Effect → Type 0
IsMinor (Say b) = is_minor b ≡ true
IsMinor (Send to m) = ⊤
IsMinor (Do w) = ⊥

made_end : (ls : List Line) (l : Line) → bindings_made (ls ++ l ∷ []) ≡ bindings_made ls + bound_by l.body
made_end [] l = sum (bound_by l.body)
  where
    sum : (n : ℕ) → n + 0 ≡ 0 + n
    sum n = omega arith
made_end (m ∷ ls) l = ap (λ n. bound_by m.body + n) (made_end ls l) ∙ sum (bound_by m.body) (bindings_made ls) (bound_by l.body)
  where
    sum : (a b c : ℕ) → a + (b + c) ≡ (a + b) + c
    sum a b c = omega arith

fits_end : (x : ℕ) (ls : List Line) (l : Line) → OpsFit x ls → OpFits x l.body → OpsFit x (ls ++ l ∷ [])
fits_end x [] l all one = (one, tt)
fits_end x (m ∷ ls) l all one = (all.0, fits_end x ls l all.1 one)

early_one : (ls : List Line) (e : ℕ) (b : Body) → is_minor b ≡ true → IsEarly ls → IsEarly (ls ++ record { event = e; body = b } ∷ [])
early_one ls e b minor early = record {
  few = below (bindings_made ls) (bound_by b) _ (made_end ls (record { event = e; body = b })) (unbound b minor) early.few;
  short = subst (λ us. length us ≤ Words.most_labels) (sym (acts_more [] ls (record { event = e; body = b } ∷ []) ∙ same b (acts ls) minor))
      early.short;
  fit = λ x. fits_end x ls (record { event = e; body = b }) (early.fit x) (fits x b minor);
}
  where
    below : (a c n : ℕ) → n ≡ a + c → c ≡ 0 → a < 4294967295 → n < 4294967295
    below a c n is none less = omega (arith, is, none, less)

    unbound : (b : Body) → is_minor b ≡ true → bound_by b ≡ 0
    unbound (body.GaveUp l n) is = refl
    unbound (body.Excluded l x s) is = refl
    unbound b is = absurd (cc is)

    same : (b : Body) (us : List Act) → is_minor b ≡ true → acts_after us b ≡ us
    same (body.GaveUp l n) us is = refl
    same (body.Excluded l x s) us is = refl
    same b us is = absurd (cc is)

    fits : (x : ℕ) (b : Body) → is_minor b ≡ true → OpFits x b
    fits x (body.GaveUp l n) is = tt
    fits x (body.Excluded l y s) is = tt
    fits x b is = absurd (cc is)

-- ---- a way without stops

-- the node is up with these parts, and all others are as they were
pub record HasGone (k : ℕ) (d : Disk) (v : Parts) (M N : Seen) : Type 0 where
  pub here : N.nodes k ≡ Some (record { number = k; disk = d; live = Some v })
  pub others : (j : ℕ) → (j == k) ≡ false → N.nodes j ≡ M.nodes j
  pub start : N.start ≡ M.start
  pub early : IsEarly M.lines → IsEarly N.lines

minor_way : (e k : ℕ) (es : List Effect) (v : Parts) (d : Disk) (M : Seen) → AreStill IsMinor es →
    (N : Seen) × OnWay e k es v d M N × HasGone k d v M N
minor_way e k [] v d M all = (
  up k d v M,
  refl,
  record {
    here = λ i. if same_number k i then Some (record { number = k; disk = d; live = Some v }) else M.nodes k;
    others = λ j off. λ i. if off i then Some (record { number = k; disk = d; live = Some v }) else M.nodes j;
    start = refl;
    early = λ early. early;
  },
)
minor_way e k (Do w ∷ es) v d M all = absurd all.0
minor_way e k (Say b ∷ es) v d M all =
    let z = minor_way e k es v d (said e (b ∷ []) M) all.1 in (
      z.0,
      z.1,
      record {
        here = z.2.here;
        others = z.2.others;
        start = z.2.start;
        early = λ early. z.2.early (early_one M.lines e b all.0 early);
      },
    )
minor_way e k (Send to m ∷ es) v d M all =
    let z = minor_way e k es v d (said e [] (posted (record { from = k; to = to; message = m }) M)) all.1 in (
      z.0,
      ([], refl, z.1),
      record {
        here = z.2.here;
        others = z.2.others;
        start = z.2.start;
        early = λ early. z.2.early (subst IsEarly (sym (append-nil M.lines)) early);
      },
    )

-- ---- what is given up

marks_used : (ss : List ℕ) (p : Plan) → (let q = commit.marks_stores ss p in q.used) ≡ p.used
marks_used [] p = refl
marks_used (s ∷ ss) p = marks_used ss (commit.marks_store s p)

marks_changed : (ss : List ℕ) (p : Plan) → (let q = commit.marks_stores ss p in q.changed) ≡ p.changed
marks_changed [] p = refl
marks_changed (s ∷ ss) p = marks_changed ss (commit.marks_store s p)

says_minor : (u : Uid) (f : Label → Body) (c : Coord) → ((l : Label) → is_minor (f l) ≡ true) → AreStill IsMinor (says u f c)
says_minor u f c its = by (doing_of u c)
  where
    by : (o : Option Doing) → AreStill IsMinor (say_for f o)
    by None = tt
    by (Some d) = (its d.label, tt)

own_place : (u : Uid) (c : Coord) (q : Doing) → doing_of u c ≡ Some q → (is_own u c.tree ≡ true) × (at_place u.num c.doings ≡ Some q)
own_place u c q is = by (is_own u c.tree) refl is
  where
    by : (b : Bool) → is_own u c.tree ≡ b → (if b then at_place u.num c.doings else None) ≡ Some q →
        (is_own u c.tree ≡ true) × (at_place u.num c.doings ≡ Some q)
    by true own at = (own, at)
    by false own at = let no_way : ◌≡◌ {A = Option Doing} None (Some q) = at in absurd (cc no_way)

labels_at : (ds : List Doing) (j : ℕ) (q : Doing) → at_place j ds ≡ Some q → at_place j (map (λ (d : Doing). d.label) ds) ≡ Some q.label
labels_at ds zero q is = let no_way : ◌≡◌ {A = Option Doing} None (Some q) = is in absurd (cc no_way)
labels_at ds (suc i) q is = by ds i is
  where
    by : (ys : List Doing) (i : ℕ) → slice_get ys i ≡ Some q → slice_get (map (λ (d : Doing). d.label) ys) i ≡ Some q.label
    by [] i none = let no_way : ◌≡◌ {A = Option Doing} None (Some q) = none in absurd (cc no_way)
    by (y ∷ ys) zero here = let same : y ≡ q = cc here in ap (λ (z : Doing). Some z.label) same
    by (y ∷ ys) (suc i) more = by ys i more

-- what is seen then
pub record HasGoneOn (hd : Header) (Z : Seen) (u : Uid) (d : Disk) (t : Parts) (b : Branch) (p : Plan) : Type 0 where
  pub seen : Seen
  pub reached : Reached hd seen
  pub parts : Parts
  pub here : seen.nodes u.node ≡ Some (record { number = u.node; disk = d; live = Some parts })
  pub naming : parts.naming ≡ t.naming
  pub found : branch_of u parts.coord.tree ≡ Some b
  pub doing : Doing
  pub works : doing_of u parts.coord ≡ Some doing
  pub plan : Plan
  pub now : doing.now ≡ Committing (Confirming plan)
  pub used : plan.used ≡ p.used
  pub changed : plan.changed ≡ p.changed
  pub others : (j : ℕ) → (j == u.node) ≡ false → seen.nodes j ≡ Z.nodes j
  pub start : seen.start ≡ Z.start
  pub early : IsEarly Z.lines → IsEarly seen.lines

module _ (hd : Header) (Z : Seen) (reached : Reached hd Z) (u : Uid) (k : Node) (t : Parts) (there : Z.nodes u.node ≡ Some k)
    (number : k.number ≡ u.node) (live : k.live ≡ Some t) (b : Branch) (found : branch_of u t.coord.tree ≡ Some b) (unended : b.ended ≡ None)
    (q : Doing) (works : doing_of u t.coord ≡ Some q) (p : Plan) (left : List ℕ) (now : q.now ≡ Committing (Preparing p left)) (r : Used)
    (rs : List Used) (some : p.used ≡ r ∷ rs) where
  abbrev c : Coord
  c = t.coord

  abbrev d : Disk
  d = k.disk

  abbrev P : Plan
  P = commit.marks_stores left p

  all : KnowsAll Z
  all = reached_has hd KnowsAll (keeps_asked hd KnowsAll (halts_keep hd)) Z reached

  actor_is : actor b.path ≡ u
  actor_is = let g = acting.coord Z all u.node k t there live in g.tree.lists.places u b found

  number_is : number_of q.label t.coord ≡ Some u.num
  number_is = (reached_has hd KnowsFinds (keeps_asked hd KnowsFinds (finds_keep hd)) Z reached).1 u.node k t there live u.num q.label
      (labels_at t.coord.doings u.num q (own_place u t.coord q works).1)

  named : branch_named q.label t.coord ≡ Some b
  named = ap (branch_numbered t.coord) number_is ∙ by (is_own u t.coord.tree) (own_place u t.coord q works).0 found
    where
      by : (o : Bool) → o ≡ true → (if o then at_place u.num t.coord.tree.branches else None) ≡ Some b →
          at_place u.num t.coord.tree.branches ≡ Some b
      by true own at = at
      by false own at = absurd (cc own)

  free : refusal_up hd (input.GiveUp q.label) t.coord ≡ None
  free = ap (input.refused_by input.giveup_reasons t.coord) named
      ∙ (λ i. Words.first_reason ((6, is_some (unended i)) ∷ (8, not (input.is_waiting (doing_of (actor_is i) t.coord))) ∷ []))
      ∙ (λ i. Words.first_reason ((8, not (input.is_waiting (works i))) ∷ []))
      ∙ (λ i. Words.first_reason ((8, not (input.is_waiting_now (now i))) ∷ []))

  -- what is done
  abbrev Then : CommitStep → Did Coord
  Then s = record {
    part = (step_commit u s d.intents t.coord).part;
    outs = gaveup_lines u left t.coord ++ (mark_lines u P.excluded t.coord ++ (step_commit u s d.intents t.coord).outs);
  }

  abbrev M : Machine
  M = Confirming (commit.further (1 ∷ []) P)

  did : does (input.GiveUp q.label) d.intents t.coord ≡ Then (Asks (Confirming (commit.further (1 ∷ []) (commit.marks_stores left p))))
  did = ap (on_branch (λ z. give_up (actor z.path) d.intents t.coord) t.coord) named
      ∙ ap (λ v. give_up v d.intents t.coord) actor_is
      ∙ ap (give_up_doing u d.intents t.coord) works
      ∙ ap (gives_up u d.intents t.coord) now
      ∙ ap (λ us. Then (commit.begin_confirm us (commit.marks_stores left p))) (marks_used left p ∙ some)

  minor : AreStill IsMinor (let z = Then (Asks (Confirming (commit.further (1 ∷ []) (commit.marks_stores left p)))) in z.outs)
  minor = all_both IsMinor (gaveup_lines u left t.coord)
      (mark_lines u (let z = commit.marks_stores left p in z.excluded) t.coord
      ++ (step_commit u (Asks (Confirming (commit.further (1 ∷ []) (commit.marks_stores left p)))) d.intents t.coord).outs)
      (all_flat IsMinor (λ n. says u (λ l. body.GaveUp l n) t.coord) left (λ n. says_minor u (λ l. body.GaveUp l n) t.coord (λ l. refl)))
      (all_both IsMinor (mark_lines u (let z = commit.marks_stores left p in z.excluded) t.coord)
      (step_commit u (Asks (Confirming (commit.further (1 ∷ []) (commit.marks_stores left p)))) d.intents t.coord).outs
      (all_flat IsMinor (λ (m : ℕ × ℕ). says u (λ l. body.Excluded l m.0 m.1) t.coord) (let z = commit.marks_stores left p in z.excluded)
      (λ m. says_minor u (λ l. body.Excluded l m.0 m.1) t.coord (λ l. refl))) (tt, tt))

  abbrev after : Coord
  after = (step_commit u (Asks (Confirming (commit.further (1 ∷ []) (commit.marks_stores left p)))) d.intents t.coord).part

  abbrev waits : Doing
  waits = record q {
    req = (plan_of (Confirming (commit.further (1 ∷ []) (commit.marks_stores left p)))).req;
    now = Committing (Confirming (commit.further (1 ∷ []) (commit.marks_stores left p)));
  }

  -- it is at that now
  at_it : doing_of u (commits_in u (Confirming (commit.further (1 ∷ []) (commit.marks_stores left p))) t.coord) ≡ Some waits
  at_it = (λ i. doing_of u (Words.change_doing (λ (z : Doing). record z {
    req = (plan_of (Confirming (commit.further (1 ∷ []) (commit.marks_stores left p)))).req;
    now = Committing (Confirming (commit.further (1 ∷ []) (commit.marks_stores left p)));
  }) u t.coord (works i)))
      ∙ (λ i. if (own_place u t.coord q works).0 i then at_place u.num (set_place u.num waits t.coord.doings) else None)
      ∙ place_same u.num waits q t.coord.doings (own_place u t.coord q works).1

  pub gone_on : HasGoneOn hd Z u k.disk t b p
  gone_on = by (minor_way 0 u.node
      (let z = Then (Asks (Confirming (commit.further (1 ∷ []) (commit.marks_stores left p)))) in z.outs)
      (with_coord t (step_commit u (Asks (Confirming (commit.further (1 ∷ []) (commit.marks_stores left p)))) k.disk.intents t.coord).part)
      k.disk Z minor)
    where
      Goes : Type 0
      Goes = (N : Seen) × OnWay 0 u.node
          (let z = Then (Asks (Confirming (commit.further (1 ∷ []) (commit.marks_stores left p)))) in z.outs)
          (with_coord t (step_commit u (Asks (Confirming (commit.further (1 ∷ []) (commit.marks_stores left p)))) k.disk.intents t.coord).part)
          k.disk Z N × HasGone u.node k.disk
          (with_coord t (step_commit u (Asks (Confirming (commit.further (1 ∷ []) (commit.marks_stores left p)))) k.disk.intents t.coord).part) Z N

      by : Goes → HasGoneOn hd Z u k.disk t b p
      by z = record {
        seen = z.0;
        reached = ByAct 0 u.node k.disk t (input.GiveUp q.label) Z z.0
            (subst (Reached hd) (sym (same_there Z u.node k t there number live)) reached) refl tt free
            (subst (λ (D : Did Coord). OnWay 0 u.node D.outs (with_coord t D.part) k.disk Z z.0) (sym did) z.1);
        parts = with_coord t (step_commit u (Asks (Confirming (commit.further (1 ∷ []) (commit.marks_stores left p)))) k.disk.intents
            t.coord).part;
        here = z.2.here;
        naming = refl;
        found = tree_same ∙ found;
        doing = waits;
        works = at_it;
        plan = commit.further (1 ∷ []) (commit.marks_stores left p);
        now = refl;
        used = marks_used left p;
        changed = marks_changed left p;
        others = z.2.others;
        start = z.2.start;
        early = z.2.early;
      }
        where
          tree_same : branch_of u (let e = commits_in u (Confirming (commit.further (1 ∷ []) (commit.marks_stores left p))) t.coord in e.tree)
              ≡ branch_of u t.coord.tree
          tree_same = λ i. branch_of u (let e = Words.change_doing (λ (z : Doing). record z {
            req = (plan_of (Confirming (commit.further (1 ∷ []) (commit.marks_stores left p)))).req;
            now = Committing (Confirming (commit.further (1 ∷ []) (commit.marks_stores left p)));
          }) u t.coord (works i) in e.tree)
