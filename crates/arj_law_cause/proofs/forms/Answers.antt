-- Operations and answers of `ok` lines: an operation is that of an accepted event, and an answer is one that a server sent.
use Rattle.arj_law_parts.proofs.Words
use Words.{⊤, ◌≡◌, ◌+◌, ◌++◌, ℕ, Bool, true, false, if◌then◌else◌, cond, List, [], ◌∷◌, length, take, map, zero, suc, Option, Some, None}
use Words.{refl, sym, subst, nat_lt, AllByRecursion, Answer, Body, Event, Header, Line, Op, Move}
use Words.{option_map, answer_of, answer_text, world_by, world_from, name, Post, Reply, Seen}
use Words.ask
use Words.invoked
use Words.body
use Words.event
use Rattle.arj_class.specs.declared.op.Answer.TheVariants as answer
use Rattle.arj_class.specs.declared.op.Op.TheVariants as op
use Rattle.arj_class.specs.declared.value.Value.{Value}
use Rattle.arj_class.specs.declared.value.Value.TheVariants as value
use Rattle.arj_class.specs.Table.{is_full_for}
use Rattle.arj_journal.specs.ScriptForm.{EventInForm}
use Rattle.arj_law_promise.proofs.Terms.{all_append}
use Rattle.arj_law_runs.specs.follow.Frames.{run_events}
use Rattle.arj_model.specs.Follows.{AreEnding, IsCallOf, is_ending}
use Rattle.arj_model.specs.Past.{Along, Asked, Past, asked_of, at_start, block, is_refused, next}
use Rattle.arj_model.specs.Refusals.{answers_to, asks_by, has_ended, is_ask_by, last_asked, pending, waits_for}
use Rattle.arj_promise.specs.Runs.{AreMovesInForm, IsInForm, Run, journal_by}
use Rattle.arj_text.specs.Fields.{AnswerTextInForm, IsAnswer, OpTextInForm, is_get}
use Rattle.arj_class.specs.Table.{front_of, number_or_nothing, value_at}
use Rattle.arj_law_parts.proofs.moves.Events.{run_with}
use Rattle.arj_law_parts.specs.moves.Moments.{no_history}
use Rattle.arj_law_promise.proofs.rooms.Actions.{runs_say_actions}
use Rattle.arj_law_serial.proofs.joint.Starting.{start_stays}
use Rattle.arj_law_cause.proofs.operations.Running.{All, all_keep}
use Rattle.arj_law_cause.proofs.operations.Taking.{AnswersOf, WasSaid}
use Rattle.arj_law_cause.proofs.spelled.Askers.{lines_have_uids}
use Rattle.arj_law_cause.proofs.spelled.Messages.{Saves, good_of, saved_keep}
use Rattle.arj_law_cause.proofs.spelled.Operations.{P, moves_form as in_form, ops_keep}
use Rattle.arj_law_cause.proofs.spelled.Saving.{FirstsRestore, firsts_restore}
use Rattle.arj_law_cause.proofs.spelled.Servers.{AnswerSays}
use Rattle.arj_law_cause.proofs.waits.lost.Bound.{all_both}
use Rattle.arj_law_cause.specs.operations.Says.{Gives}
use Rattle.arj_law_cause.proofs.waits.replies.Running.{replies_end}
use Rattle.arj_law_cause.specs.waits.replies.Ends.{EndWaits, EndsWait, RepliesStep}

-- ---- what was asked

abbrev AskedForm : Asked → Type 0
AskedForm k = EventInForm k.event

last_form : (ks : List Asked) → AllByRecursion AskedForm ks → (k : Asked) → last_asked ks ≡ Some k → AskedForm k
last_form [] all k is = let no_way : ◌≡◌ {A = Option Asked} None (Some k) = is in absurd (cc no_way)
last_form (x ∷ []) all k is = let same : ◌≡◌ {A = Option Asked} (Some x) (Some k) = is in let one : x ≡ k = cc in subst AskedForm one all.0
last_form (x ∷ y ∷ rest) all k is = last_form (y ∷ rest) all.1 k is

by_form : (l : List ℕ) (ks : List Asked) → AllByRecursion AskedForm ks → AllByRecursion AskedForm (asks_by ks l)
by_form l [] all = tt
by_form l (k ∷ ks) all = by (is_ask_by l k.event) (by_form l ks all.1)
  where
    by : (b : Bool) → AllByRecursion AskedForm (asks_by ks l) → AllByRecursion AskedForm (cond b (k ∷ asks_by ks l) (asks_by ks l))
    by true ih = (all.0, ih)
    by false ih = ih

-- an action waits for an accepted event
waits_form : (ks : List Asked) (lines : List Line) (l : List ℕ) → AllByRecursion AskedForm ks → (x : ℕ) (o : Op) →
    IsCallOf x o (waits_for ks lines l) → OpTextInForm o
waits_form ks lines l all x o = by (has_ended lines l)
  where
    call : (e : Event) → EventInForm e → IsCallOf x o (Some e) → OpTextInForm o
    call (event.Call m y asked) form is = subst OpTextInForm is.1 form.2
    call e form is = absurd is

    last : (k : Option Asked) → ((a : Asked) → k ≡ Some a → AskedForm a) → IsCallOf x o (let q = k in option_map (λ (a : Asked). a.event) q) →
        OpTextInForm o
    last None form is = absurd is
    last (Some a) form is = call a.event (form a refl) is

    unless : (b : Bool) → IsCallOf x o (option_map (λ (a : Asked). a.event) (if b then last_asked (asks_by ks l) else None)) → OpTextInForm o
    unless true is = last (last_asked (asks_by ks l)) (λ a found. last_form (asks_by ks l) (by_form l ks all) a found) is
    unless false is = absurd is

    by : (b : Bool) → IsCallOf x o (if b then None else pending ks lines l) → OpTextInForm o
    by true is = absurd is
    by false is = unless (nat_lt (length (answers_to lines l)) (length (asks_by ks l))) is

-- ---- lines

-- an `ok` line says an operation in form
abbrev pub SaysOp : Body → Type 0
SaysOp (body.Ok l x o a) = OpTextInForm o
SaysOp b = ⊤

abbrev AllSay : List Line → Type 0
AllSay lines = AllByRecursion (λ (line : Line). SaysOp line.body) lines

body_says : (ks : List Asked) (lines behind : List Line) → AllByRecursion AskedForm ks → (b : Body) → EndsWait ks lines behind b → SaysOp b
body_says ks lines behind all (body.Ok l x o a) ends = waits_form ks lines (name l) all x o ends.0
body_says ks lines behind all b ends = tt

bodies_say : (ks : List Asked) → AllByRecursion AskedForm ks → (n : ℕ) (lines : List Line) (bs : List Body) → EndWaits ks lines n bs →
    AllSay (block n bs)
bodies_say ks all n lines [] ends = tt
bodies_say ks all n lines (b ∷ bs) ends = (
  body_says ks lines (lines ++ block n (b ∷ [])) all b ends.0,
  bodies_say ks all n (lines ++ block n (b ∷ [])) bs ends.1,
)

along_say : (hd : Header) (es : List Event) (p end : Past) → Along (RepliesStep hd) p es end → AllByRecursion EventInForm es →
    AllByRecursion AskedForm p.accepted → AllSay p.lines → AllSay end.lines
along_say hd [] p end a events accepted so = subst (λ (q : Past). AllSay q.lines) a so
along_say hd (e ∷ es) p end a events accepted so =
    let more = all_append AskedForm p.accepted (asked_of p e ∷ []) accepted (events.0, tt) in
    along_say hd es (next p e a.0) end a.2 events.1 (by (is_refused a.0) more)
    (all_append (λ (line : Line). SaysOp line.body) p.lines (block (p.count + 1) a.0) so
    (bodies_say (p.accepted ++ asked_of p e ∷ []) more (p.count + 1) p.lines a.0 a.1))
  where
    by : (b : Bool) → AllByRecursion AskedForm (p.accepted ++ asked_of p e ∷ []) →
        AllByRecursion AskedForm (if b then p.accepted else p.accepted ++ asked_of p e ∷ [])
    by true more = accepted
    by false more = more

ending_says : (n : ℕ) (ending : List Line) → AreEnding n ending → AllSay ending
ending_says n [] are = tt
ending_says n (l ∷ []) are = (one l.body are.1, tt)
  where
    one : (b : Body) → is_ending b ≡ true → SaysOp b
    one (body.Ok l x o a) is = absurd (cc is)
    one b is = tt
ending_says n (l ∷ m ∷ rest) are = absurd are

-- ---- runs

moves_form : (n : ℕ) (ms : List Move) → AreMovesInForm ms →
    AllByRecursion EventInForm (take n (map (λ (m : Move). let e = m.asked in e.event) ms))
moves_form zero ms all = tt
moves_form (suc n) [] all = tt
moves_form (suc n) (m ∷ ms) all = (all.0, moves_form n ms all.1)

pub runs_say_ops : (hd : Header) (r : Run hd) → IsInForm hd r → AllSay (journal_by hd r)
runs_say_ops hd r form =
    let q = replies_end hd r form in
    subst AllSay (sym q.3) (all_append (λ (line : Line). SaysOp line.body) (let p = q.0 in p.lines) q.1
    (along_say hd (run_events hd r) (at_start r.start) q.0 q.2 (moves_form (let w = world_by hd r in w.event) r.moves form.events) tt tt)
    (ending_says (length (run_events hd r)) q.1 q.4))

-- ---- what is answered

-- an `ok` line says an answer of its operation, which has the form of one
abbrev SaidIt : Body → Type 0
SaidIt (body.Ok l x o bytes) = (a : Answer) × Gives o a × (bytes ≡ answer_text a) × AnswerSays a
SaidIt b = ⊤

abbrev SaidOf : ℕ → Body → Type 0
SaidOf x (body.Ok l y o bytes) = y ≡ x → SaidIt (body.Ok l y o bytes)
SaidOf x b = ⊤

says_of : (x : ℕ) (posts : List Post) → ((a : Answer) → WasSaid posts a → AnswerSays a) → (ls : List Line) →
    AllByRecursion (λ (line : Line). AnswersOf x posts line.body) ls → AllByRecursion (λ (line : Line). SaidOf x line.body) ls
says_of x posts says [] all = tt
says_of x posts says (l ∷ ls) all = (one l.body all.0, says_of x posts says ls all.1)
  where
    one : (b : Body) → AnswersOf x posts b → SaidOf x b
    one (body.Ok l y o bytes) its = λ same. let q = its same in (q.0, q.1, q.2, says q.0 q.3)
    one b its = tt

each_said : (ls : List Line) → ((x : ℕ) → AllByRecursion (λ (line : Line). SaidOf x line.body) ls) →
    AllByRecursion (λ (line : Line). SaidIt line.body) ls
each_said [] all = tt
each_said (l ∷ ls) all = (one l.body (λ x. (all x).0), each_said ls (λ x. (all x).1))
  where
    one : (b : Body) → ((x : ℕ) → SaidOf x b) → SaidIt b
    one (body.Ok l y o bytes) its = its y refl
    one b its = tt

module _ (hd : Header) (r : Run hd) (form : IsInForm hd r) where
  -- in the world behind the run
  older : FirstsRestore hd (let w = world_by hd r in w.start)
  older = subst (FirstsRestore hd) (sym (start_stays hd r)) (firsts_restore hd r.start r.formed form.held)

  runs_say_answers : AllByRecursion (λ (line : Line). SaidIt line.body) (journal_by hd r)
  runs_say_answers = each_said (journal_by hd r) one_object
    where
      one_object : (x : ℕ) → AllByRecursion (λ (line : Line). SaidOf x line.body) (journal_by hd r)
      one_object x =
          let header = form.header in
          let keeps = saved_keep hd header in
          let good = λ (M : Seen) (all : Saves hd header M). good_of hd header M all.0 in
          let h = run_with hd (λ M. All hd x M × P hd (Saves hd header) keeps good M) (all_both hd (All hd x) (P hd (Saves hd header) keeps good)
          (all_keep hd x header) (ops_keep hd (Saves hd header) keeps good)) r in
          let n = h.now in
          let w = n.holds.1.1 in
          let ops = w.3 (in_form r.moves (world_from hd r.start) (no_history r.start) form.events tt) in
          let uids = lines_have_uids (journal_by hd r) (runs_say_actions hd r form (let f = r.formed in f.incs)) in
          let saved = w.2.1 ((λ p q y b i ends o there is. ops p q (ask.Invoke y b i ends o) there is), uids) in
          says_of x n.sent
          (λ a was. (saved.1 was.0 (w.1 was.0 was.2)).1 was.1 (Reply.Invoked (invoked.Answered a)) was.3 older) (journal_by hd r) n.holds.0.1

-- ---- which answers are in form

-- bytes are answered to a `get` alone
abbrev IsPlain : Answer → Type 0
IsPlain (answer.Text bytes) = ⊥
IsPlain a = ⊤

if_plain : (b : Bool) (x y : Answer) → IsPlain x → IsPlain y → IsPlain (if b then x else y)
if_plain true x y a b = a
if_plain false x y a b = b

number_plain : (o : Option ℕ) → IsPlain (number_or_nothing o)
number_plain None = tt
number_plain (Some n) = tt

front_plain : (ns : List ℕ) → IsPlain (front_of ns)
front_plain [] = tt
front_plain (n ∷ ns) = tt

plain : (o : Op) (v : Value) → is_get o ≡ false → IsPlain (answer_of o v)
plain op.Get v is = absurd (cc is)
plain (op.Create w) (value.Gone c) is = tt
plain (op.Create w) v is = tt
plain op.Destroy (value.Gone c) is = tt
plain op.Destroy _ is = tt
plain (op.Set n) (value.Counter m) is = tt
plain (op.Put new) (value.Register bytes) is = tt
plain op.Len (value.Queue ns) is = tt
plain (op.Add n) (value.Counter m) is = if_plain (nat_lt (m + n) 18446744073709551616) answer.Done answer.Over tt tt
plain (op.Deposit n) (value.Account m) is = if_plain (nat_lt (m + n) 18446744073709551616) answer.Done answer.Over tt tt
plain (op.Withdraw n) (value.Account m) is = if_plain (nat_lt m n) answer.Short answer.Done tt tt
plain (op.Push n) (value.Queue ns) is = if_plain (nat_lt (length ns) 32) answer.Done answer.Full tt tt
plain op.Pop (value.Queue ns) is = front_plain ns
plain (op.GetKey k) (value.Table ps) is = number_plain (value_at k ps)
plain (op.PutPair k x) (value.Table ps) is = if_plain (is_full_for k ps) answer.Full answer.Done tt tt
plain (op.Remove k) (value.Table ps) is = number_plain (value_at k ps)
plain o v is = tt

answer_form : (o : Op) (a : Answer) → Gives o a → AnswerSays a → AnswerTextInForm o a
answer_form o (answer.Number n) gives says = says
answer_form o (answer.Text bytes) gives says = (by (is_get o) refl, says)
  where
    by : (b : Bool) → is_get o ≡ b → b ≡ true
    by true is = refl
    by false is = absurd (subst IsPlain (sym gives.2) (plain o gives.0 is))
answer_form o answer.Done gives says = tt
answer_form o answer.Over gives says = tt
answer_form o answer.Short gives says = tt
answer_form o answer.Full gives says = tt
answer_form o answer.Nothing gives says = tt
answer_form o answer.There gives says = tt
answer_form o answer.Gone gives says = tt

-- an `ok` line has an operation in form, and an answer of it
abbrev pub OkInForm : Body → Type 0
OkInForm (body.Ok l x o a) = OpTextInForm o × IsAnswer o a
OkInForm b = ⊤

both_ok : (lines : List Line) → AllSay lines → AllByRecursion (λ (line : Line). SaidIt line.body) lines →
    AllByRecursion (λ (line : Line). OkInForm line.body) lines
both_ok [] ops said = tt
both_ok (line ∷ lines) ops said = (one line.body ops.0 said.0, both_ok lines ops.1 said.1)
  where
    one : (b : Body) → SaysOp b → SaidIt b → OkInForm b
    one (body.Ok l x o a) says gave = (says, (gave.0, answer_form o gave.0 gave.1 gave.3, gave.2))
    one b says gave = tt

pub runs_say_ok : (hd : Header) (r : Run hd) → IsInForm hd r → AllByRecursion (λ (line : Line). OkInForm line.body) (journal_by hd r)
runs_say_ok hd r form = both_ok (journal_by hd r) (runs_say_ops hd r form) (runs_say_answers hd r form)
