-- An object that comes and goes: a worked run with what it shows, and wrong journals beside it.
use Rattle.std.specs.Prelude.{◌≡◌, ◌⊎◌, refl, ℕ, List, [], ◌∷◌, ◌++◌, filter, length, map, take, get_or, codes, Bool, true, false, Some, None}
use Rattle.std.proofs.Common.{arith, inl, inr, ap, sym, ◌∙◌}
use Rattle.std.proofs.lemmas.Fmt.{decimal_digit}
use Rattle.arj_base.specs.declared.mode.Mode.TheVariants.{Read, Write}
use Rattle.arj_base.specs.declared.mode.End.TheVariants.{Abort}
use Rattle.arj_base.specs.declared.state.Class.TheVariants as class
use Rattle.arj_base.specs.declared.state.Format.TheVariants as format
use Rattle.arj_base.specs.declared.state.ObjectState.{ObjectState}
use Rattle.arj_base.specs.declared.uid.Uid.{Uid}
use Rattle.arj_base.specs.State.{class_code_of}
use Rattle.arj_base.specs.Uid.{object, nobody}
use Rattle.arj_class.specs.declared.op.Op.TheVariants.{Get, Create, Destroy}
use Rattle.arj_class.specs.declared.value.Value.{Value}
use Rattle.arj_class.specs.declared.value.Value.TheVariants.{Counter, Register, Account, Queue, Table, Gone}
use Rattle.arj_class.specs.Table.{own_class, has_op, answer_of}
use Rattle.arj_text.specs.Words.{answer_text}
use Rattle.arj_journal.specs.declared.body.Body.{Body}
use Rattle.arj_journal.specs.declared.body.Body.TheVariants as body
use Rattle.arj_journal.specs.declared.body.Cause.TheVariants as cause
use Rattle.arj_journal.specs.declared.body.Kind.TheVariants as kind
use Rattle.arj_journal.specs.declared.body.Line.{Line}
use Rattle.arj_journal.specs.declared.body.Part.TheVariants as part
use Rattle.arj_journal.specs.declared.event.Event.{Event}
use Rattle.arj_journal.specs.declared.event.Event.TheVariants as event
use Rattle.arj_journal.specs.declared.header.Header.{Header}
use Rattle.arj_model.specs.Serial.{Serial}
use Rattle.arj_model.specs.Last.{first_values, last_state}
use Rattle.arj_model.specs.Past.{Past, nothing_yet}
use Rattle.arj_start.specs.Start.{fresh}
use Rattle.arj_model.specs.Refusals.{refusal}
use Rattle.arj_model.specs.Follows.{Follows, IsAnswerOf, IsRefusedDoomed, Step}
use Rattle.arj_model.proofs.Journals.{A, B, N, uid, began, commit_end, counter, first_use, lines_of, ok, on_entry, on_object, told}
use Rattle.arj_model.proofs.Rows.{◌&◌, accepted, first_entry, is_built, last_is, past_from, runs, shown, shows, went}

-- a counter that is gone at first
abbrev header : Header
header = record { nodes = 1; objects = record { x = 1; value = Gone class.Counter; servers = 1 ∷ []; stores = 1 ∷ [] } ∷ []; format = format.Two }

-- an object's state while it is gone: its payload is the object's class
abbrev gone_is : ℕ → Uid → ObjectState
gone_is version writer = record { uid = object 1; class = class.Gone; version = version; writer = writer; payload = 1 ∷ []; format = format.Two }

-- A lets the object come, in vain a second time; N below A lets it go, and aborts; then B lets it go.
abbrev events : List Event
events =
    event.Begin A 1 ∷ event.Call A 1 Get ∷ event.Call A 1 (Create (Queue (1 ∷ []))) ∷ event.Call A 1 (Create (Counter 7)) ∷ event.BeginIn N A ∷ event.Call N 1 Destroy
    ∷ event.Abort N ∷ event.Call A 1 (Create (Counter 9)) ∷ event.Commit A ∷ event.Show 1 ∷ event.Begin B 1 ∷ event.Call B 1 Destroy ∷ event.Commit B ∷ event.Show 1 ∷ []

abbrev bodies : List (List Body)
bodies =
    (began A kind.Top 1 None ∷ [])
    ∷ (first_use 1 ++ on_object 1 Read ∷ ok A Get (codes "gone") ∷ [])
    ∷ (body.Refused 14 ∷ [])
    ∷ (on_object 1 Write ∷ ok A (Create (Counter 7)) (codes "done") ∷ [])
    ∷ (began N kind.Nested 2 (Some A) ∷ [])
    ∷ (on_object 2 Write ∷ ok N Destroy (codes "done") ∷ [])
    ∷ (body.Aborted N cause.Asked ∷ told 2 Abort part.Server ∷ [])
    ∷ (ok A (Create (Counter 9)) (codes "there") ∷ [])
    ∷ (body.Committing A ∷ commit_end A 1)
    ∷ (body.Entry 1 0 (1 ∷ []) (1 ∷ []) ∷ body.Copy 1 1 1 (uid 1) (counter 7) ∷ [])
    ∷ (began B kind.Top 3 None ∷ [])
    ∷ (on_entry 3 Read ∷ on_object 3 Write ∷ ok B Destroy (codes "done") ∷ [])
    ∷ (body.Committing B ∷ commit_end B 3)
    ∷ (body.Entry 1 0 (1 ∷ []) (1 ∷ []) ∷ body.Copy 1 1 2 (uid 3) (1 ∷ []) ∷ [])
    ∷ []

-- It is gone at first, there after A's commit, and gone again after B's; each commit counts.
states :
    map (λ n. last_state header (lines_of (take n bodies)) 1) (8 ∷ 10 ∷ 14 ∷ []) ≡ gone_is 0 nobody ∷ last_is 1 (uid 1) 7 ∷ gone_is 2 (uid 3) ∷ []
states = refl

shows_so :
    shown header (lines_of bodies)
    ≡ shows (0 ∷ 2 ∷ []) (true ∷ true ∷ true ∷ []) (6 ∷ 9 ∷ 15 ∷ 27 ∷ []) (codes "gone" ∷ codes "done" ∷ codes "there" ∷ codes "done" ∷ []) (gone_is 2 (uid 3)) (1 ∷ []) first_entry
shows_so = refl

serial : Serial (first_values header) (lines_of bodies)
serial = refl & refl & refl & refl & tt

-- the lines of actions alone, as far as B's commit
abbrev built : List (List Body)
built = map (filter is_follow) (take 9 bodies)
  where
    is_follow : Body → Bool
    is_follow (body.Refused c) = true
    is_follow (body.Aborted l c) = true
    is_follow b = is_built b

follows : Follows header fresh (take 9 events) (lines_of built)
follows = runs (Step header) (take 9 events) built [] (
    went refl (accepted (began A kind.Top 1 None ∷ []) [] [] refl refl refl refl tt)
    & went refl (accepted [] (ok A Get (codes "gone") ∷ []) [] refl (inl refl) refl refl (((refl, refl), (Gone class.Counter, refl, refl)), tt))
    & went refl refl
    & went refl (accepted [] (ok A (Create (Counter 7)) (codes "done") ∷ []) [] refl (inl refl) refl refl (((refl, refl), (Gone class.Counter, refl, refl)), tt))
    & went refl (accepted (began N kind.Nested 2 (Some A) ∷ []) [] [] (1, refl, refl) refl refl refl tt)
    & went refl (accepted [] (ok N Destroy (codes "done") ∷ []) [] refl (inl refl) refl refl (((refl, refl), (Counter 7, refl, refl)), tt))
    & went refl (accepted (body.Aborted N cause.Asked ∷ []) [] [] (refl, tt) (inl refl) refl refl tt)
    & went refl (accepted [] (ok A (Create (Counter 9)) (codes "there") ∷ []) [] refl (inl refl) refl refl (((refl, refl), (Counter 7, refl, refl)), tt))
    & went refl (accepted (body.Committing A ∷ []) (body.Committed A ∷ []) [] (inl refl) (inl refl) refl refl (refl, tt))
    & tt) tt

-- Classes: those of the object decide, also while it is gone, and an object comes with no value of another one, nor with none.
abbrev begun : Past
begun = past_from nothing_yet (take 1 events) (take 1 bodies)

refusals :
    map (refusal header begun) (event.Call A 1 Get ∷ event.Call A 1 (Create (Counter 7)) ∷ event.Call A 1 Destroy ∷ event.Call A 1 (Create (Account 7)) ∷ event.Call A 1 (Create (Gone class.Counter))
    ∷ [])
    ≡ None ∷ None ∷ None ∷ Some 14 ∷ Some 14 ∷ []
refusals = refl

-- So no create of another class is answered.
no_other_class : Step header begun (event.Call A 1 (Create (Queue (1 ∷ [])))) (ok A (Create (Queue (1 ∷ []))) (codes "done") ∷ []) → ⊥
no_other_class s = by s.lines
  where
    by : (ok A (Create (Queue (1 ∷ []))) (codes "done") ∷ [] ≡ body.Refused 14 ∷ [])
        ⊎ IsRefusedDoomed header begun (event.Call A 1 (Create (Queue (1 ∷ [])))) (ok A (Create (Queue (1 ∷ []))) (codes "done") ∷ []) → ⊥
    by (inl e) = cc
    by (inr d) = let e = d.line in cc

-- the first letter of an answer, which tells these answers apart
abbrev first : List ℕ → ℕ
first text = get_or text 0 0

-- A create answers that it is done or that the object is there, and never that it is gone.
creates_answer : IsAnswerOf (Create (Counter 7)) (codes "done") × IsAnswerOf (Create (Counter 7)) (codes "there")
creates_answer = ((Gone class.Counter, refl, refl), (Counter 0, refl, refl))

destroys_answer : IsAnswerOf Destroy (codes "done") × IsAnswerOf Destroy (codes "gone")
destroys_answer = ((Counter 0, refl, refl), (Gone class.Counter, refl, refl))

no_create_of_nothing : IsAnswerOf (Create (Counter 7)) (codes "gone") → ⊥
no_create_of_nothing f = by f.0 f.1 f.2
  where
    by : (v : Value) → has_op (own_class v) (Create (Counter 7)) ≡ true → codes "gone" ≡ answer_text (answer_of (Create (Counter 7)) v) → ⊥
    by (Gone c) has is = let h : 103 ≡ 100 = ap first is in omega (arith, h)
    by (Counter m) has is = let h : 103 ≡ 116 = ap first is in omega (arith, h)
    by (Register bytes) has is = cc
    by (Account m) has is = cc
    by (Queue ns) has is = cc
    by (Table ps) has is = cc

-- The commits of A, where each of its calls and those of actions below it stand in these lines, and of B, which reads.
abbrev both : List Body → List ℕ → List Line
both calls answer = lines_of (
    (began A kind.Top 1 None ∷ calls)
    ∷ (body.Committing A ∷ body.Committed A ∷ [])
    ∷ (began B kind.Top 3 None ∷ ok B Get answer ∷ body.Committing B ∷ body.Committed B ∷ [])
    ∷ [])

abbrev IsSerial : List Line → Type 0
IsSerial lines = Serial (first_values header) lines

abbrev comes : Body
comes = ok A (Create (Counter 7)) (codes "done")

-- An object that was destroyed has no value.
abbrev comes_and_goes : List Body
comes_and_goes = comes ∷ ok A Destroy (codes "done") ∷ []

is_gone : IsSerial (both comes_and_goes (codes "gone"))
is_gone = refl & refl & refl & tt

no_value_left : IsSerial (both comes_and_goes (codes "7")) → ⊥
no_value_left a = let h : 103 ≡ 55 = ap first a.1.1.0 in omega (arith, h)

-- Where it is there another create changes nothing, and says so.
stays : IsSerial (both (comes ∷ ok A (Create (Counter 9)) (codes "there") ∷ []) (codes "7"))
stays = refl & refl & decimal_digit 7 (omega arith) & tt

no_second_create : (answer : List ℕ) → IsSerial (both (comes ∷ ok A (Create (Counter 9)) (codes "done") ∷ []) answer) → ⊥
no_second_create answer a = let h : 116 ≡ 100 = ap first a.1.0 in omega (arith, h)

no_new_value : IsSerial (both (comes ∷ ok A (Create (Counter 9)) (codes "there") ∷ []) (codes "9")) → ⊥
no_new_value a = let h : 55 ≡ 57 = ap first (sym (decimal_digit 7 (omega arith)) ∙ a.1.1.0) in omega (arith, h)

-- An abort takes back that the object went, and a commit doesn't.
abbrev below : Body → List Body
below end = comes ∷ began N kind.Nested 2 (Some A) ∷ ok N Destroy (codes "done") ∷ end ∷ []

taken_back : IsSerial (both (below (body.Aborted N cause.Asked)) (codes "7"))
taken_back = refl & decimal_digit 7 (omega arith) & tt

not_gone : IsSerial (both (below (body.Aborted N cause.Asked)) (codes "gone")) → ⊥
not_gone a = let h : 55 ≡ 103 = ap first (sym (decimal_digit 7 (omega arith)) ∙ a.1.0) in omega (arith, h)

goes : IsSerial (both (below (body.Committed N)) (codes "gone"))
goes = refl & refl & refl & tt

-- The state of an object that went says who let it go, and has the version of that commit: not that of the beginning, and no value.
no_first_version : last_state header (lines_of bodies) 1 ≡ gone_is 0 nobody → ⊥
no_first_version is = let h : 2 ≡ 0 = ap (λ (st : ObjectState). st.version) is in omega (arith, h)

no_payload_of_a_value : last_state header (lines_of bodies) 1 ≡ last_is 2 (uid 3) 7 → ⊥
no_payload_of_a_value is = let h : 1 ≡ 8 = ap (λ (st : ObjectState). length st.payload) is in omega (arith, h)

-- It isn't a register's with the same payload: its class tells.
no_register : last_state header (lines_of bodies) 1 ≡ record (gone_is 2 (uid 3)) { class = class.Register } → ⊥
no_register is = let h : 6 ≡ 2 = ap (λ (st : ObjectState). class_code_of st.class) is in omega (arith, h)
