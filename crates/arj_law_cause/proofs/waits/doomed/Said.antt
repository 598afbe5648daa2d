-- The first lines of what a node writes as a call is given up that waits for its operation, and as a commit is asked.
use Rattle.arj_law_parts.proofs.Words
use Words.{◌≡◌, ◌∙◌, ◌-◌, ◌++◌, ℕ, zero, suc, Bool, true, false, cond, List, [], ◌∷◌, Option, Some, None, refl, sym, ap, subst}
use Words.{append_assoc}
use Words.{actor, at_number, at_place, bodies, cut, handle_all, most_rounds, next_round, node_did, ran, rounds, refusal, step, step_node}
use Words.{steps, step_with}
use Words.{whole, with_coord, Arm, Body, Branch, Coord, Doing, Effect, Intent, Kind, Label, Message, Node, Parts, Ran, Say, Uid, World}
use Words.{branch_named, commit_action, commit_open, commit_top, ended, ends_with, give_up, give_up_doing, gives_up, moved_commit}
use Words.{next_node, on_branch, says, say_for}
use Words.{doing_of, is_invoke, last_req, plan_for, root_at, root_of, tolds_of, At, AtActivate, AtBind, AtInvoke, AtLoad, AtNote, Calling}
use Words.{Steps, Input}
use Words.{aborts_with, give_up_call, given_up, on_root, root_lost, step_call}
use Words.body
use Words.cause
use Words.ending
use Words.input
use Words.kind
use Rattle.arj_protocol.specs.Commit.{start}
use Rattle.arj_law_cause.proofs.follow.lines.Saying
use Saying.{Adds, own_bodies, own_cut, own_ran, say_all, step_adds}

-- ---- what a step writes first

-- these lines come first
abbrev pub Fronts : List Body → List Body → Type 0
Fronts own bs = (rest : List Body) × (bs ≡ own ++ rest)

-- these effects do
abbrev Leads : List Effect → List Effect → Type 0
Leads own es = (rest : List Effect) × (es ≡ own ++ rest)

abbrev Rounded : ℕ → ℕ → Ran → List Message → Ran
Rounded n j r q = elim q [ [] ↦ r | m ∷ ms ↦ rounds n j (next_round n r) ]

rounds_lead : (n j : ℕ) (own : List Effect) (r : Ran) → Leads own r.outs → Leads own (rounds n j r).outs
rounds_lead n zero own r f = f
rounds_lead n (suc j) own r f = by r.queue (let more = handle_all n r.queue r.here in
    rounds_lead n j own (next_round n r) (f.0 ++ more.outs, ap (λ es. es ++ more.outs) f.1 ∙ append_assoc own f.0 more.outs))
  where
    by : (q : List Message) → Leads own (rounds n j (next_round n r)).outs → Leads own (Rounded n j r q).outs
    by [] later = f
    by (m ∷ ms) later = later

front_adds : (k : ℕ) (n : Node) (t : Parts) (own : List Body) (es outs : List Effect) → outs ≡ say_all own ++ es →
    (w : World) (o : Option Arm) →
    Adds (Fronts own) w (step_with k n (node_did n [] t outs) w o)
front_adds k n t own es outs is w o = step_adds (Fronts own) k n (node_did n [] t outs) w o (record {
  through = λ j. (bodies k j f.0, ap (bodies k j) f.1 ∙ own_bodies k j own f.0);
  halted = λ j c how. let last : List Effect = Say (body.Halted k) ∷ [] in let d = n.disk in (
    bodies k j ((cut c how f.0 d).outs ++ last),
    ap (bodies k j) (ap (λ fs. (cut c how fs d).outs ++ last) f.1 ∙ ap (λ fs. fs ++ last) (own_cut c how own f.0 d)
        ∙ append_assoc (say_all own) (cut c how f.0 d).outs last) ∙ own_bodies k j own ((cut c how f.0 d).outs ++ last),
  );
})
  where
    f : Leads (say_all own) (whole n.number t outs n.disk).outs
    f = subst (λ fs. Leads (say_all own) (whole n.number t fs n.disk).outs) (sym is)
        (rounds_lead n.number most_rounds (say_all own) (ran n.number t (say_all own ++ es) n.disk)
        ((ran n.number t es n.disk).outs, own_ran n.number t own es n.disk))

-- ---- a giveup

gave : (u : Uid) (s : Steps) (c : Coord) (d : Doing) → doing_of u c ≡ Some d → actor s.path ≡ u → (at : At) → is_invoke at ≡ true →
    s.at ≡ at →
    (intents : List (Uid × Intent)) →
    (gives_up u intents c (Calling s)).outs ≡ Say (body.GaveUp d.label (next_node s)) ∷ Say (body.Lost d.label (next_node s)) ∷ []
gave u s c d does same (AtBind b) is there intents = absurd (cc is)
gave u s c d does same (AtLoad q n rest) is there intents = absurd (cc is)
gave u s c d does same (AtActivate q st) is there intents = absurd (cc is)
gave u s c d does same (AtNote q i) is there intents = absurd (cc is)
gave u s c d does same (AtInvoke q i) is there intents = λ j. (say_for (λ l. body.GaveUp l (next_node s)) (does j) ++ []) ++ lost j
  where
    on_lost : Coord
    on_lost = on_root (root_of s.path) (root_lost s (given_up s.at)) c

    lost : (give_up_call s c).outs ≡ Say (body.Lost d.label (next_node s)) ∷ []
    lost = (λ j. (step_call s (given_up (there j)) (on_root (root_of s.path) (root_lost s (given_up s.at)) c)).outs)
        ∙ (λ j. say_for (λ l. body.Lost l q.server) (doing_of (same j) c)) ∙ ap (say_for (λ l. body.Lost l q.server)) does
        ∙ (λ j. Say (body.Lost d.label (Words.node_at (sym there j))) ∷ [])

-- what an action that waits for its operation says as it gives up
pub gave_outs : (u : Uid) (s : Steps) (c : Coord) (d : Doing) → doing_of u c ≡ Some d → d.now ≡ Calling s → actor s.path ≡ u →
    is_invoke s.at ≡ true → (intents : List (Uid × Intent)) →
    (give_up u intents c).outs ≡ Say (body.GaveUp d.label (next_node s)) ∷ Say (body.Lost d.label (next_node s)) ∷ []
gave_outs u s c d does now same is intents = (λ j. (give_up_doing u intents c (does j)).outs) ∙ (λ j. (gives_up u intents c (now j)).outs)
    ∙ gave u s c d does same s.at is refl intents

-- ---- a commit

-- the line says that a doomed action was aborted
abbrev pub is_doom : Body → Bool
is_doom (body.Aborted l cause.Doomed) = true
is_doom b = false

-- effects that begin with another line
pub record BeginsPlain (es : List Effect) : Type 0 where
  pub line : Body
  pub rest : List Effect
  pub are : es ≡ Say line ∷ rest
  pub plain : is_doom line ≡ false

module _ (b : Branch) (intents : List (Uid × Intent)) (c : Coord) (q : Doing) (does : doing_of (actor b.path) c ≡ Some q) where
  ends : (e : Words.End) (f : Label → Body) → is_doom (f q.label) ≡ false → BeginsPlain (ends_with (actor b.path) e f intents c).outs
  ends e f plain = record {
    line = f q.label;
    rest = tolds_of intents (ended (actor b.path) e c) (actor b.path);
    are = ap (λ es. es ++ tolds_of intents (ended (actor b.path) e c) (actor b.path)) (ap (say_for f) does);
    plain = plain;
  }

  top : BeginsPlain (commit_top b.path intents c).outs
  top =
      let p = plan_for b.path (last_req (doing_of (actor b.path) c)) (root_at (root_of b.path) c) c in
      let rest = moved_commit (actor b.path) (start p) intents c in record {
        line = body.Committing q.label;
        rest = rest.outs;
        are = ap (λ es. es ++ rest.outs) (ap (say_for body.Committing) does);
        plain = refl;
      }

  kinds : (k : Kind) → BeginsPlain (commit_open b intents c k).outs
  kinds kind.Nested = ends ending.Commit body.Committed refl
  kinds kind.Serial = ends ending.Commit body.Ended refl
  kinds kind.Top = top
  kinds kind.Independent = top
  kinds kind.Constituent = top

  -- the commit of an action that isn't doomed begins otherwise
  pub commit_plain : b.doomed ≡ false → BeginsPlain (commit_action b intents c).outs
  commit_plain off = subst
      (λ x. BeginsPlain (cond x (aborts_with (actor b.path) cause.Doomed intents c) (commit_open b intents c b.kind)).outs)
      (sym off) (kinds b.kind)

-- ---- worlds

module _ (w : World) (k : ℕ) (n : Node) (t : Parts) (there : at_place k w.nodes ≡ Some n) (live : n.live ≡ Some t) where
  step_adds_front : (own : List Body) (es outs : List Effect) (v : Parts) (i : Input) → step w.header n i ≡ node_did n [] v outs →
      outs ≡ say_all own ++ es → Adds (Fronts own) w (steps k i w)
  step_adds_front own es outs v i is out =
      subst (λ o. Adds (Fronts own) w (step_node k i w o)) (sym there)
      (subst (λ s. Adds (Fronts own) w (step_with k n s w (at_number k w.arms))) (sym is)
      (front_adds k n v own es outs out w (at_number k w.arms)))

  taken : (i : Input) → refusal w.header i n ≡ None → step w.header n i ≡ input.step_up i n t
  taken i free = ap (input.step_unless w.header i n) free ∙ ap (input.step_of w.header i n) live

  -- a giveup of a call that waits for its operation
  pub giveup_says : (l : Label) (b : Branch) → refusal w.header (input.GiveUp l) n ≡ None → branch_named l t.coord ≡ Some b →
      (d : Doing) (s : Steps) → doing_of (actor b.path) t.coord ≡ Some d → d.now ≡ Calling s → actor s.path ≡ actor b.path →
      is_invoke s.at ≡ true →
      Adds (Fronts (body.GaveUp d.label (next_node s) ∷ body.Lost d.label (next_node s) ∷ [])) w (steps k (input.GiveUp l) w)
  giveup_says l b free named d s does now same is =
      let did = give_up (actor b.path) (let x = n.disk in x.intents) t.coord in
      step_adds_front (body.GaveUp d.label (next_node s) ∷ body.Lost d.label (next_node s) ∷ []) [] did.outs (with_coord t did.part)
      (input.GiveUp l)
      (taken (input.GiveUp l) free ∙ ap (λ z. input.coord_did n t
      (on_branch (λ b. give_up (actor b.path) (let x = n.disk in x.intents) t.coord) t.coord z)) named)
      (gave_outs (actor b.path) s t.coord d does now same is (let x = n.disk in x.intents))

  -- a commit of an action that isn't doomed
  pub commit_says : (l : Label) (b : Branch) → refusal w.header (input.Commit l) n ≡ None → branch_named l t.coord ≡ Some b →
      (q : Doing) → doing_of (actor b.path) t.coord ≡ Some q → b.doomed ≡ false →
      (x : Body) × (is_doom x ≡ false) × Adds (Fronts (x ∷ [])) w (steps k (input.Commit l) w)
  commit_says l b free named q does off =
      let did = commit_action b (let x = n.disk in x.intents) t.coord in
      let p = commit_plain b (let x = n.disk in x.intents) t.coord q does off in (
        p.line,
        p.plain,
        step_adds_front (p.line ∷ []) p.rest did.outs (with_coord t did.part) (input.Commit l)
            (taken (input.Commit l) free ∙ ap (λ z. input.coord_did n t
            (on_branch (λ b. commit_action b (let x = n.disk in x.intents) t.coord) t.coord z)) named)
            p.are,
      )
