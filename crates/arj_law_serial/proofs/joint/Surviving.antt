-- Where a write of the object survives in the lock machine, its top is one of the journal, committed there, and wrote the object.
use Rattle.arj_law_parts.proofs.Words
use Words.{◌≡◌, ◌+◌, ◌&&◌, ◌||◌, not, ℕ, Bool, true, false, cond, List, [], ◌∷◌, Some, None, refl, sym, ◌∙◌, ap, subst, inl, inr, eq-eqb}
use Words.{list_all, uid_same, is_on, last_uid, uid_eq, In, in_to, Line, Uid, Seen, Wrote, is_serial}
use Rattle.arj_law_serial.proofs.Terms
use Terms.{Act, Placed, acts, chain_in, committed, has_end, is_committed, recovered, top_in, uids, Said, call_of}
use Terms.{committed_calls, kept, kept_in, Values, writes_on, Action, is_top, new_book, IsDone, AreAlike, AreRight, AreSound, its_acts}
use Terms.{its_sound, on_path, is_action, on, top, State, Survives, Holds, run_keeps, start_holds, top_of, AreCallsOf, IsCallOf}
use Terms.{IsTiedToLines, said_on, Acts, Codes, IsSeenIn, StandsFor, Fixed, case_of, HasPlaces, path_of}
use Terms.machine
use Terms.state
use Rattle.arj_law_serial.proofs.joint.Called.{mapped}
use Rattle.arj_law_serial.proofs.order
use order.{Begun.begun_have_places, Items.said_maker, Order.top_plain, Values.on_object}
use order.Paths.{chain_on, own_last, own_top, top_on}
use order.Tying.{all_in, chain_nested, nested_end, shape_of}
use Rattle.arj_model.specs.Calls.{Call, said}

-- the journal's call of one of the machine
pub call_found : (act : Acts) (code : Codes) (ss : List (Placed Said)) (cs : List state.Call) → AreCallsOf act code ss cs →
    (c : state.Call) → machine.In c cs → (s : Placed Said) × In s ss × IsCallOf act code s c
call_found act code [] [] are c i = absurd i
call_found act code [] (d ∷ cs) are c i = absurd are
call_found act code (s ∷ ss) [] are c i = absurd are
call_found act code (s ∷ ss) (d ∷ cs) are c (inl same) = (s, inl refl, subst (λ (e : state.Call). IsCallOf act code s e) (sym same) are.0)
call_found act code (s ∷ ss) (d ∷ cs) are c (inr i) = let r = call_found act code ss cs are.1 c i in (r.0, inr r.1, r.2)

uid_on : (xs : List Act) (x : Act) → In x xs → is_on (uids xs) x.uid ≡ true
uid_on [] x i = absurd i
uid_on (y ∷ ys) x (inl same) = ap (λ b. b || is_on (uids ys) x.uid) (ap (λ (z : Act). uid_eq z.uid x.uid) same ∙ uid_same x.uid)
uid_on (y ∷ ys) x (inr i) = by (uid_eq y.uid x.uid) (uid_on ys x i)
  where
    by : (b : Bool) → is_on (uids ys) x.uid ≡ true → (b || is_on (uids ys) x.uid) ≡ true
    by true r = refl
    by false r = r

off : (b : Bool) → not b ≡ true → b ≡ false
off true e = absurd (cc e)
off false e = refl

-- The action is a top of the journal, committed there, and wrote the object.
pub record HasWritten (lines : List Line) (x : ℕ) (u : Uid) : Type 0 where
  pub act : Act
  pub there : In act (acts lines)
  pub uid : act.uid ≡ u
  pub kind : is_top act.kind ≡ true
  pub done : IsDone lines act
  pub wrote : Wrote lines x (record { id = act.id; root = act.id; at = 0 })

-- The top wrote by a surviving call of the journal, whose line is the machine's.
pub record HasSaid (lines : List Line) (x : ℕ) (u : Uid) (line : ℕ) : Type 0 where
  pub act : Act
  pub there : In act (acts lines)
  pub uid : act.uid ≡ u
  pub call : Call
  pub listed : In call (committed_calls lines)
  pub write : writes_on x call ≡ true
  pub whose : call.top ≡ act.id
  pub line_is : line ≡ call.at + 1

-- The action is the top of a call in the machine, and one of the journal.
pub record IsTopThere (act : Acts) (lines : List Line) (m : machine.Act) : Type 0 where
  pub its : Act
  pub there : In its (acts lines)
  pub kind : is_top its.kind ≡ true
  pub place : act its.uid ≡ m

module _ (f : Fixed) (x : ℕ) (begun : List Action) (S : State) (M : Seen) (seen : IsSeenIn (case_of f x begun S) M) (values : Values)
    (begins : StandsFor f (values x)) where
  right : AreRight new_book M.lines
  right = let w = seen.written in w.right

  sound : AreSound (acts M.lines)
  sound = its_sound M.lines right

  places : HasPlaces f.act M.lines
  places = begun_have_places begun f.paths f.act M.lines right (subst (AreAlike begun) (its_acts M.lines right) seen.alike)
      (let a = seen.agrees in a.whole)

  tied : IsTiedToLines f.act f.code values x M.lines S
  tied = seen.tied values begins

  holds : Holds S
  holds = let s = seen.sees in run_keeps s.run (start_holds f.first)

  module _ (c : state.Call) (there : machine.In c S.calls) where
    pair : (s : Placed Said) × In s (said_on x M.lines) × IsCallOf f.act f.code s c
    pair = call_found f.act f.code (said_on x M.lines) S.calls tied.calls c there

    abbrev s : Placed Said
    s = pair.0

    object : In s (said M.lines) × (s.it.x ≡ x)
    object = on_object x M.lines s pair.1

    abbrev maker : Act
    maker = (said_maker M.lines right s object.0).act

    made : In maker (acts M.lines)
    made = (said_maker M.lines right s object.0).there

    path_is : s.it.path ≡ path_of M.lines maker
    path_is = (said_maker M.lines right s object.0).path_is

    caller : c.act ≡ f.act maker.uid
    caller = (let k = pair.2 in k.caller) ∙ ap (λ (p : List Act). f.act (last_uid (uids p))) path_is
        ∙ ap f.act (own_last (acts M.lines) sound.distinct sound.formed maker made)

    plain : is_serial maker.kind ≡ false
    plain = off (is_serial maker.kind)
        (sym (places.actions maker (in_to maker (acts M.lines) made)) ∙ ap is_action (sym caller) ∙ (let h = holds.calls c there in h.acts))

    topmost : (t : Act) × (top_in (path_of M.lines maker) ≡ Some t)
    topmost = own_top (acts M.lines) sound.distinct sound.formed maker made plain

    abbrev t : Act
    t = topmost.0

    member : (b : Act) → In b (path_of M.lines maker) → In b (acts M.lines)
    member b j = on_path (acts M.lines) maker.label b j

    top_path : In t (path_of M.lines maker)
    top_path = top_on (path_of M.lines maker) t topmost.1

    top_kind : is_top t.kind ≡ true
    top_kind = let h = shape_of M.lines right maker in h.tops t topmost.1

    -- its top in the machine
    its_top : f.act t.uid ≡ top c.act
    its_top =
        let i = in_to t (acts M.lines) (member t top_path) in
        let above : on c.act (f.act t.uid) ≡ true = ap (λ a. on a (f.act t.uid)) caller
        ∙ places.above maker t (in_to maker (acts M.lines) made) i ∙ uid_on (path_of M.lines maker) t top_path in
        sym (top_of c.act (f.act t.uid) (places.tops t i ∙ top_kind) above)

    pub top_there : IsTopThere f.act M.lines (top c.act)
    top_there = record { its = t; there = member t top_path; kind = top_kind; place = its_top }

    module _ (write : c.write ≡ true) (survives : Survives S c.act) (u : Uid) (of : top c.act ≡ f.act u) where
      -- who stands on its path is committed
      done : (b : Act) → In b (path_of M.lines maker) → is_serial b.kind ≡ false → IsDone M.lines b
      done b j is =
          let i = in_to b (acts M.lines) (member b j) in
          let above : on c.act (f.act b.uid) ≡ true = ap (λ a. on a (f.act b.uid)) caller
          ∙ places.above maker b (in_to maker (acts M.lines) made) i ∙ uid_on (path_of M.lines maker) b j in
          let e = tied.ends b i is in
          (e.only (survives (f.act b.uid) above (places.actions b i ∙ ap not is))).0

      top_done : IsDone M.lines t
      top_done = done t top_path (top_plain t.kind top_kind)

      kept_is : kept (committed M.lines) (recovered M.lines) s ≡ Some (call_of s t)
      kept_is =
          let below : list_all (λ (a : Act). has_end (committed M.lines) a.id) (chain_in (path_of M.lines maker)) ≡ true = all_in
          (λ (a : Act). has_end (committed M.lines) a.id) (chain_in (path_of M.lines maker)) (λ b i.
          let k = chain_nested M.lines right maker b i in
          let j = chain_on (path_of M.lines maker) b i in
          nested_end M.lines right b (member b j) k.0 (done b j k.1)) in
          ap (kept_in (committed M.lines) (recovered M.lines) s) (ap top_in path_is ∙ topmost.1)
          ∙ ap (λ b. cond (b && is_committed (committed M.lines) (recovered M.lines) t) (Some (call_of s t)) None)
          (ap (λ q. list_all (λ (a : Act). has_end (committed M.lines) a.id) (chain_in q)) path_is ∙ below)
          ∙ ap (λ b. cond b (Some (call_of s t)) None) top_done

      pub has_written : HasWritten M.lines x u
      has_written = record {
        act = t;
        there = member t top_path;
        uid = (let a = seen.agrees in let w = a.whole in let l = w.alike in l.one t.uid u (its_top ∙ of));
        kind = top_kind;
        done = top_done;
        wrote = (
          call_of s t,
          in_to (call_of s t) _ (mapped (kept (committed M.lines) (recovered M.lines)) s (call_of s t) (said M.lines) object.0 kept_is),
          (λ i. (eq-eqb s.it.x x object.1 i) && (sym (let k = pair.2 in k.write) ∙ write) i),
          refl,
        );
      }

      pub has_said : HasSaid M.lines x u c.line
      has_said = record {
        act = t;
        there = member t top_path;
        uid = (let a = seen.agrees in let w = a.whole in let l = w.alike in l.one t.uid u (its_top ∙ of));
        call = call_of s t;
        listed = mapped (kept (committed M.lines) (recovered M.lines)) s (call_of s t) (said M.lines) object.0 kept_is;
        write = (λ i. (eq-eqb s.it.x x object.1 i) && (sym (let k = pair.2 in k.write) ∙ write) i);
        whose = refl;
        line_is = (let k = pair.2 in k.line);
      }
