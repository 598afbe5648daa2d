-- Who takes an answer to an Invoke waits for that Invoke, and writes the line of its operation.
use Rattle.arj_law_parts.proofs.Words
use Words.{⊤, ◌≡◌, ◌∙◌, ◌==◌, ◌++◌, ℕ, Bool, true, false, cond, if◌then◌else◌, List, [], ◌∷◌, Option, Some, None, refl, sym, ap, subst}
use Words.{AllByRecursion, and_parts, eqb-true, Answer, Ask, Asked, Body, Head, Label, Line, Message, Op, Uid, actor}
use Words.{answer_text, Reply, Coord, Doing, doing_of, Disk, Do, Effect, Say, Send, worked, Parts, Steps, CallEnd, Goal, Run, Answered}
use Words.{Included}
use Words.{Conflict, Changed, Lost, Calling, at_place, end_line, frame_kind, is_own, numbered}
use Words.{Binding, Header, ask_at, ◌+◌, Post, answers, inr}
use Words.ask
use Words.body
use Words.calls
use Words.invoked
use Rattle.arj_law_runs.proofs.addresses.Lists.{all_append}
use Rattle.arj_law_runs.specs.calls.Coords.{IsOfStep, bare}
use Rattle.arj_law_lock_view.proofs.Terms.{same_number}
use Rattle.arj_law_lock_view.specs.asking.Turns.{AreDumb, AreGiveups, EndsSo, IsHeardIn, RestsSo, TurnsSo, Why, is_giveup, is_reply}
use Rattle.arj_law_lock_view.specs.facts.Requests.{IsAskedBy}
use Rattle.arj_law_lock_view.specs.moments.Made.{AnswersAreMade}
use Rattle.arj_law_parts.proofs.moves.{Flat.post, Happens.Wide}
use Rattle.arj_law_parts.specs.moves.Moments.{Moment, at, fits, framed_if, posted, said, sent, up}
use Rattle.arj_law_parts.specs.moves.Seen.{In}
use Rattle.arj_law_parts.specs.moves.With.{UpWith, WalksWith}
use Rattle.arj_law_parts.specs.parts.Requests.{AreNumbered, IsNumbered}
use Rattle.arj_law_cause.proofs.operations.Serving.{Facts}
use Rattle.arj_law_cause.specs.operations.Says.{Gives, gives_of, gives_so}

-- ---- lines

-- the answer was sent
abbrev pub WasSaid : List Post → Answer → Type 0
WasSaid posts a = (p : Post) × (z : Asked) × In p posts × (answers p.message ≡ Some (z, Reply.Invoked (invoked.Answered a)))

-- an `ok` line of this object has an answer of the operation that it names, which was sent
abbrev pub AnswersOf : ℕ → List Post → Body → Type 0
AnswersOf x posts (body.Ok l y op answer) = y ≡ x → (a : Answer) × Gives op a × (answer ≡ answer_text a) × WasSaid posts a
AnswersOf x posts b = ⊤

module _ (x : ℕ) where
  -- a line that answers nothing
  pub mute_it : (posts : List Post) (b : Body) → is_reply b ≡ false → AnswersOf x posts b
  mute_it posts (body.Ok l y o a) is = absurd (cc is)
  mute_it posts b is = tt

  giveup_it : (posts : List Post) (b : Body) → is_giveup b ≡ true → AnswersOf x posts b
  giveup_it posts (body.GaveUp l n) is = tt
  giveup_it posts b is = absurd (cc is)

  -- as more is sent
  more_it : (p : Post) (posts : List Post) (ls : List Line) → AllByRecursion (λ (line : Line). AnswersOf x posts line.body) ls →
      AllByRecursion (λ (line : Line). AnswersOf x (p ∷ posts) line.body) ls
  more_it p posts [] all = tt
  more_it p posts (l ∷ ls) all = (one l.body all.0, more_it p posts ls all.1)
    where
      one : (b : Body) → AnswersOf x posts b → AnswersOf x (p ∷ posts) b
      one (body.Ok l y o a) its = λ same. let q = its same in let w = q.3 in (q.0, q.1, q.2, (w.0, w.1, inr w.2, w.3))
      one b its = tt

  -- the line that ends a call or an include
  end_it : (posts : List Post) (y : ℕ) (g : Goal) (e : CallEnd) (l : Label) →
      ((o : Op) (a : Answer) → g ≡ Run o → e ≡ Answered a → y ≡ x → Gives o a × WasSaid posts a) → AnswersOf x posts (end_line y g e l)
  end_it posts y (Run o) (Answered a) l its = λ same. let q = its o a refl refl same in (a, q.0, refl, q.1)
  end_it posts y (calls.Include s) (Answered a) l its = tt
  end_it posts y g (Included s) l its = tt
  end_it posts y g (Conflict h k n) l its = tt
  end_it posts y g (Changed n w) l its = tt
  end_it posts y g (Lost n b) l its = tt

  -- so it is of all lines
  abbrev pub LinesAnswer : Moment → Type 0
  LinesAnswer M = AllByRecursion (λ (line : Line). AnswersOf x M.seen.sent line.body) M.seen.lines

  pub said_it : (bs : List Body) (N : Moment) → AllByRecursion (AnswersOf x N.seen.sent) bs → LinesAnswer N → LinesAnswer (said bs N)
  said_it bs N its h = all_append (λ (line : Line). AnswersOf x N.seen.sent line.body) N.seen.lines (numbered N.past.number bs) h (each bs its)
    where
      each : (cs : List Body) → AllByRecursion (AnswersOf x N.seen.sent) cs →
          AllByRecursion (λ (line : Line). AnswersOf x N.seen.sent line.body) (numbered N.past.number cs)
      each [] all = tt
      each (c ∷ cs) all = (all.0, each cs all.1)

  sent_it : (p : Post) (N : Moment) → LinesAnswer N → LinesAnswer (sent p N)
  sent_it p N h = by (p.to == p.from) (fits N)
    where
      by : (self fit : Bool) → LinesAnswer (if self then posted p N else framed_if fit p N)
      by true fit = more_it p N.seen.sent N.seen.lines h
      by false true =
          let line : List Body = body.Sent (N.past.frames + 1) p.from p.to (frame_kind p.message) ∷ [] in
          more_it p N.seen.sent (N.seen.lines ++ numbered N.past.number (body.Sent (N.past.frames + 1) p.from p.to (frame_kind p.message) ∷ []))
          (said_it line N (tt, tt) h)
      by false false = h

  module _ (k : ℕ) (v : Parts) where
    pub dumb_walk : (outs : List Effect) (d : Disk) (N : Moment) → AreDumb outs → LinesAnswer N →
        WalksWith LinesAnswer k outs (UpWith LinesAnswer k v) d N
    dumb_walk [] d N all h = h
    dumb_walk (Do w ∷ es) d N all h = ((λ how. said_it (body.Halted k ∷ []) N (tt, tt) h), dumb_walk es (worked w d) N all.1 h)
    dumb_walk (Say b ∷ es) d N all h = dumb_walk es d (said (b ∷ []) N) all.1 (said_it (b ∷ []) N (mute_it N.seen.sent b all.0, tt) h)
    dumb_walk (Send to m ∷ es) d N all h = dumb_walk es d (sent (post k to m) N) all.1 (sent_it (post k to m) N h)

    ends_walk : (line : Body) (front : List Effect) (d : Disk) (N : Moment) → AnswersOf x N.seen.sent line → AreGiveups front → LinesAnswer N →
        WalksWith LinesAnswer k (front ++ Say line ∷ []) (UpWith LinesAnswer k v) d N
    ends_walk line [] d N its lined h = said_it (line ∷ []) N (its, tt) h
    ends_walk line (Say b ∷ es) d N its lined h = ends_walk line es d (said (b ∷ []) N) its lined.1
        (said_it (b ∷ []) N (giveup_it N.seen.sent b lined.0, tt) h)
    ends_walk line (Send to m ∷ es) d N its lined h = absurd lined.0
    ends_walk line (Do w ∷ es) d N its lined h = absurd lined.0

    -- a coordinator goes on, where each answer to a call is one of its operation
    pub turn_walk : (W : Why) (c e : Coord) (outs : List Effect) (d : Disk) (N : Moment) →
        ((u : Uid) (z : Doing) (s : Steps) (g : CallEnd) → doing_of u c ≡ Some z → z.now ≡ Calling s → W u s g → (o : Op) (a : Answer) →
        s.goal ≡ Run o → g ≡ Answered a → s.x ≡ x → Gives o a × WasSaid N.seen.sent a) →
        TurnsSo W c outs e → LinesAnswer N → WalksWith LinesAnswer k outs (UpWith LinesAnswer k v) d N
    turn_walk W c e outs d N its (RestsSo dumb came) h = dumb_walk outs d N dumb h
    turn_walk W c e outs d N its (EndsSo u z s g front found is lined why are after) h =
        subst (λ es. WalksWith LinesAnswer k es (UpWith LinesAnswer k v) d N) (sym are)
        (ends_walk (end_line s.x s.goal g z.label) front d N (end_it N.seen.sent s.x s.goal g z.label (its u z s g found is why)) lined h)

-- ---- an answer that is taken

-- the request of a step that is an Invoke
same_op : (x : ℕ) (q : Ask) (y : ℕ) (b : Binding) (i : ℕ) (o : Op) (a : Answer) → bare q ≡ ask.Invoke y b i [] o → y ≡ x →
    gives_of x q (Reply.Invoked (invoked.Answered a)) → Gives o a
same_op x (ask.Invoke z c j ends p) y b i o a is at gives =
    let op : p ≡ o = cc is in
    let object : z ≡ y = cc is in
    subst (λ w. Gives w a) op (gives (object ∙ at))
same_op x q y b i o a is at gives = absurd (cc is)

module _ (hd : Header) (x : ℕ) (k : ℕ) (d : Disk) (t : Parts) (from : ℕ) (m : Message) (M : Moment)
    (known : Wide (Facts hd x) (up k d t M)) (made : AnswersAreMade (gives_so x) (up k d t M)) (numbers : AreNumbered t.coord)
    (came : In (post from k m) M.seen.sent) where
  own_of : (u : Uid) (z : Doing) → doing_of u t.coord ≡ Some z → is_own u t.coord.tree ≡ true
  own_of u z does = by (is_own u t.coord.tree) refl does
    where
      by : (b : Bool) → is_own u t.coord.tree ≡ b → cond b (at_place u.num t.coord.doings) None ≡ Some z → is_own u t.coord.tree ≡ true
      by true is found = is
      by false is found = let no : ◌≡◌ {A = Option Doing} None (Some z) = found in absurd (cc no)

  some_is : {A : Type 0} {a b : A} → Some a ≡ Some b → a ≡ b
  some_is {A} {a} {b} is = let k : ◌≡◌ {A = Option A} (Some a) (Some b) = is in cc

  pub heard_gives : (u : Uid) (z : Doing) (s : Steps) (g : CallEnd) → doing_of u t.coord ≡ Some z → z.now ≡ Calling s →
      IsHeardIn from m u s g → (o : Op) (a : Answer) → s.goal ≡ Run o → g ≡ Answered a → s.x ≡ x → Gives o a × WasSaid M.seen.sent a
  heard_gives u z s g does is (asked, r, says, h) o a goal ends at =
      let w = made.sent (post from k m) asked r came says in
      let q : Head = w.0 in
      let f = w.3 in
      let act : actor q.path ≡ u = ap (λ (y : Asked). y.act) w.2 ∙ sym h.act in
      let req : q.req ≡ asked.req = ap (λ (y : Asked). y.req) w.2 in
      let y : IsAskedBy t.coord f.request.to q w.1 = known.2.0.0.1 k (record { number = k; disk = d; live = Some t }) t
      (λ i. cond (same_number k i) (Some (record { number = k; disk = d; live = Some t })) (M.seen.nodes k)) refl
      f.request q w.1 (known.1 f.request f.posted) f.from f.asking (ap (λ v. is_own v t.coord.tree) act ∙ own_of u z does) in
      let same : y.doing ≡ z = some_is (sym y.found ∙ ap (λ v. doing_of v t.coord) act ∙ does) in
      let number : s.req ≡ z.req = subst (IsNumbered z.req) is (numbers u z does) in
      let waits : s.req ≡ asked.req = eqb-true s.req asked.req (and_parts (s.req == asked.req) _ h.waits).0 in
      let of_step : IsOfStep s f.request.to q w.1 = y.step s (ap (λ (v : Doing). v.now) same ∙ is)
      (req ∙ sym waits ∙ number ∙ ap (λ (v : Doing). v.req) (sym same)) in
      let i = h.its a ends in (
        same_op x w.1 s.x (let j = i.0 in j.binding) i.1 o a (of_step.same ∙ (λ j. ask_at s.x (goal j) [] (i.2 j))) at
            (subst (gives_of x w.1) i.3 f.made.so),
        (post from k m, asked, came, says ∙ ap (λ (q : Reply). Some (asked, q)) i.3),
      )
