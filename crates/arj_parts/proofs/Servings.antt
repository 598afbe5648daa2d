-- What the services did with a message is what the node's parts did.
use Rattle.std.proofs.Common.{◌≡◌, ◌∙◌, List, [], ◌∷◌, ◌++◌, map, refl, sym, ap, subst, ℕ}
use Rattle.std.specs.Prelude.{Option, Some, None, is_some, option_map}
use Rattle.arj_journal.specs.declared.body.Line.{Line}
use Rattle.arj_naming.specs.Kept as naming
use Rattle.arj_parts.proofs.StateAsks.{asked_all}
use Rattle.arj_protocol.specs.Coord.{Coord}
use Rattle.arj_serve.specs.Asked.{Handles, HandlesInPart, Serves, ServesInPart, asked, queries}
use Rattle.arj_disk.specs.FileMap.{FileMap}
use Rattle.arj_naming.specs.Said.{said}
use Rattle.arj_node.specs.Handing as node
use Rattle.arj_node.specs.Outgoing.{IsHalted, effects_of, loud}
use Rattle.arj_node.specs.Ran.{disk_after}
use Rattle.arj_node.specs.declared.outgoing.Outgoing.{Outgoing}
use Rattle.arj_parts.specs.Kept.{Kept, RestsOn, StandsOn, has_naming}
use Rattle.arj_parts.specs.Said.{says_of}
use Rattle.arj_parts.specs.Works.{is_state_effect}
use Rattle.arj_parts.proofs.Rests.{rests_still}
use Rattle.arj_parts.proofs.StateWorks as works
use Rattle.arj_parts.proofs.StateWorks.{after_leaves, cut_leaves, front_of}
use Rattle.arj_protocol.specs.Effect.{Disk, Effect, Intent, Say, Send, Do, Look, PutInc, Prepare, Commit, Abort, PutIntent, RemoveIntent}
use Rattle.arj_protocol.specs.Effect.{stopped, worked}
use Rattle.arj_protocol.specs.Node.{Handled, Here, Parts, Void, Took, handle, query_about}
use Rattle.arj_protocol.specs.Says.{AreAll}
use Rattle.arj_protocol.specs.Words.{Message, Uid}
use Rattle.arj_serve.specs.Did as serve
use Rattle.arj_serve.specs.Did.{AreLocal, AreLooks, Call, sends}
use Rattle.arj_serve.specs.Kept as services
use Rattle.arj_serve.specs.Kept.{Leaves, part_of, parts_with}
use Rattle.arj_serve.proofs.Roles.{Stays, disk_is}
use Rattle.arj_store.specs.declared.store.ObjectStore.{Ghosts}

-- ---- effects

pub same_after : (es : List Effect) (d : Disk) → serve.disk_after es d ≡ disk_after es d
same_after [] d = refl
same_after (Say b ∷ es) d = same_after es d
same_after (Send to m ∷ es) d = same_after es d
same_after (Do w ∷ es) d = same_after es (worked w d)

-- lines and work, with messages behind them
after_sends : (es : List Effect) (sent : List (ℕ × Message)) (d : Disk) → disk_after (es ++ sends sent) d ≡ disk_after es d
after_sends [] [] d = refl
after_sends [] (x ∷ xs) d = after_sends [] xs d
after_sends (Say b ∷ es) sent d = after_sends es sent d
after_sends (Send to m ∷ es) sent d = after_sends es sent d
after_sends (Do w ∷ es) sent d = after_sends es sent (worked w d)

pub loud_sends : (sent : List (ℕ × Message)) → loud (sends sent) ≡ sends sent
loud_sends [] = refl
loud_sends (x ∷ xs) = ap (λ es. Send x.0 x.1 ∷ es) (loud_sends xs)

-- what local effects say is what is loud of them
pub says_loud : (es : List Effect) → AreLocal es → says_of (said es) ≡ loud es
says_loud [] local = refl
says_loud (Say b ∷ es) local = ap (λ xs. Say b ∷ xs) (says_loud es local)
says_loud (Send to m ∷ es) local = absurd local
says_loud (Do w ∷ es) local = says_loud es local

loud_then : (es : List Effect) (sent : List (ℕ × Message)) → AreLocal es → says_of (said es) ++ sends sent ≡ loud (es ++ sends sent)
loud_then [] sent local = sym (loud_sends sent)
loud_then (Say b ∷ es) sent local = ap (λ xs. Say b ∷ xs) (loud_then es sent local)
loud_then (Send to m ∷ es) sent local = absurd local
loud_then (Do w ∷ es) sent local = loud_then es sent local

looks_quiet : (es : List Effect) → AreLooks es → loud es ≡ []
looks_quiet [] are = refl
looks_quiet (Say b ∷ es) are = absurd are
looks_quiet (Send to m ∷ es) are = absurd are
looks_quiet (Do Look ∷ es) are = looks_quiet es are
looks_quiet (Do (PutInc i) ∷ es) are = absurd are
looks_quiet (Do (Prepare r a s) ∷ es) are = absurd are
looks_quiet (Do (Commit r a) ∷ es) are = absurd are
looks_quiet (Do (Abort r a) ∷ es) are = absurd are
looks_quiet (Do (PutIntent t i) ∷ es) are = absurd are
looks_quiet (Do (RemoveIntent t) ∷ es) are = absurd are

looks_same : (es : List Effect) (d : Disk) → AreLooks es → disk_after es d ≡ d
looks_same [] d are = refl
looks_same (Say b ∷ es) d are = absurd are
looks_same (Send to m ∷ es) d are = absurd are
looks_same (Do Look ∷ es) d are = looks_same es d are
looks_same (Do (PutInc i) ∷ es) d are = absurd are
looks_same (Do (Prepare r a s) ∷ es) d are = absurd are
looks_same (Do (Commit r a) ∷ es) d are = absurd are
looks_same (Do (Abort r a) ∷ es) d are = absurd are
looks_same (Do (PutIntent t i) ∷ es) d are = absurd are
looks_same (Do (RemoveIntent t) ∷ es) d are = absurd are

-- ---- standing

module _ {O : Type 0} (o : Ghosts O) (stays : Stays o) (n : ℕ) (p : Kept O) (h : Here) (call : Call O) (is : call.old ≡ p.services) (stands : StandsOn o n p call.file h) (leaves : Leaves o (is_some call.old.naming) call.file call.left) where
  named : is_some call.old.naming ≡ has_naming n
  named = ap (λ (s : services.Kept O). is_some s.naming) is ∙ stands.named

  rests_on : (e : Disk) → works.Leaves (has_naming n) h.disk e → services.IsDiskOf o (has_naming n) call.left e → RestsOn o n call.left e
  rests_on e left on =
      rests_still o stays call.file call.left h.disk e n stands.rests left (subst (λ b. services.OnlyStates b call.file call.left) named leaves.others) (subst (λ b. services.IsFormed o b call.left) named leaves.formed) on

  -- the parts with what the services are now
  abbrev pub parts_now : Kept O
  parts_now = record { services = call.new; coord = p.coord; records = p.records }

  stands_now : (es : List Effect) → AreAll (is_state_effect (has_naming n)) es → serve.SamePlace call →
      services.StandsOn o call.new call.left (serve.disk_after es h.disk)
      → StandsOn o n parts_now call.left (record { disk = disk_after es h.disk; parts = parts_with call.new p.coord })
  stands_now es all place on =
      let left = after_leaves (has_naming n) es h.disk all in
      let still : is_some call.new.naming ≡ has_naming n = place.named ∙ named in
      subst (λ (d : Disk). StandsOn o n parts_now call.left (record {
        disk = d;
        parts =
            parts_with call.new p.coord;
      })) (same_after es h.disk)
      (record {
        rests = rests_on (serve.disk_after es h.disk) left (subst (λ b. services.IsDiskOf o b call.left (serve.disk_after es h.disk)) still (disk_is o call.new call.left (serve.disk_after es h.disk) on));
        services = on;
        number = place.number ∙ (ap (λ (s : services.Kept O). s.number) is ∙ stands.number);
        named = still;
        records = stands.records ∙ sym left.intents;
        parts = refl;
      })

  -- a message was taken, and its answer is handed back
  pub takes_so : (v : Handled) (sent : List (ℕ × Message)) (before after : List Outgoing) → serve.Takes o v p.coord call h.disk sent →
      AreAll (is_state_effect (has_naming n)) (serve.outs_of v)
      → ((es : List Effect) → call.after ≡ call.before ++ said es →
      effects_of after ≡ effects_of before ++ (says_of (said es) ++ sends sent))
      → node.Takes (StandsOn o n parts_now call.left) h v before after
  takes_so v sent before after takes all told =
      let own : AreAll (is_state_effect (has_naming n)) (takes.done ++ sends sent) =
      subst (λ w. AreAll (is_state_effect (has_naming n)) (serve.outs_of w)) takes.is all in
      record {
        parts = parts_with call.new p.coord;
        effects = takes.done ++ sends sent;
        is = takes.is;
        does = record {
          stands = subst (λ (d : Disk). StandsOn o n parts_now call.left (record {
            disk = d;
            parts =
                parts_with call.new p.coord;
          })) (sym (after_sends takes.done sent h.disk))
              (stands_now takes.done (fronts takes.done (sends sent) own) takes.place takes.stands);
          tells = told takes.done takes.lines ∙ ap (λ es. effects_of before ++ es) (loud_then takes.done sent takes.local);
        };
      }
    where
      fronts : (es fs : List Effect) → AreAll (is_state_effect (has_naming n)) (es ++ fs) → AreAll (is_state_effect (has_naming n)) es
      fronts es fs all = front_of (is_state_effect (has_naming n)) es fs all

  -- it was void
  pub void_so : (v : Handled) (outs : List Outgoing) → serve.IsVoid o v call h.disk →
      node.Leaves (StandsOn o n parts_now call.left) h v outs outs
  void_so v outs void = record {
    looks = void.looks;
    is = void.is;
    quiet = looks_quiet void.looks void.are;
    same = looks_same void.looks h.disk void.are;
    stands = subst (StandsOn o n parts_now call.left) (λ i. record {
      disk = h.disk;
      parts =
          same i;
    }) (stands_now [] refl void.place void.stands);
    outs = refl;
  }
    where
      same : parts_with call.new p.coord ≡ h.parts
      same = void.parts p.coord ∙ ((λ i. parts_with (is i) p.coord) ∙ sym stands.parts)

  -- it was stopped
  pub cut_so : (outs : List Effect) (before after : List Outgoing) → serve.IsCut o outs call h.disk →
      AreAll (is_state_effect (has_naming n)) outs
      → ((es : List Effect) → call.after ≡ call.before ++ said es → effects_of after ≡ effects_of before ++ says_of (said es))
      → IsHalted (RestsOn o n call.left) outs h.disk before after
  cut_so outs before after cut all told = record {
    front = cut.front;
    stop = record {
      work = cut.work;
      back = cut.back;
      how = cut.how;
      are = cut.are;
      disk = subst (λ (d : Disk). RestsOn o n call.left (stopped cut.how cut.work d)) (same_after cut.front h.disk)
          (rests_on (stopped cut.how cut.work (serve.disk_after cut.front h.disk))
          (cut_leaves (has_naming n) cut.front cut.work cut.back cut.how h.disk (subst (AreAll (is_state_effect (has_naming n))) cut.are all))
          (subst (λ b. services.IsDiskOf o b call.left (stopped cut.how cut.work (serve.disk_after cut.front h.disk))) named cut.disk));
    };
    tells = told cut.front cut.lines ∙ ap (λ es. effects_of before ++ es) (says_loud cut.front cut.local);
  }

-- ---- a request, from what the services did with it

same_outs : (v : Handled) → serve.outs_of v ≡ node.outs_of v
same_outs (Void outs) = refl
same_outs (Took t outs) = refl

some_part : {O : Type 0} (o : Option (naming.Kept O)) → is_some (option_map part_of o) ≡ is_some o
some_part None = refl
some_part (Some n) = refl

module _ {O : Type 0} (o : Ghosts O) (stays : Stays o) (was now : services.Kept O) (coord : Coord) (records : List (Uid × Intent)) (file left : FileMap) (none lines : List Line) (nothing : none ≡ []) (m : Message) (from : ℕ)
    (leaves : Leaves o (is_some was.naming) file left) where
  abbrev pub old_parts : Kept O
  old_parts = record { services = was; coord = coord; records = records }

  abbrev pub new_parts : Kept O
  new_parts = record { services = now; coord = coord; records = records }

  abbrev pub the_call : Call O
  the_call = record { old = was; new = now; file = file; left = left; before = none; after = lines }

  said_all : (es : List Effect) → lines ≡ none ++ said es → lines ≡ said es
  said_all es are = are ∙ ap (λ xs. xs ++ said es) nothing

  module _ (n : ℕ) (h : Here) (stands : StandsOn o n old_parts file h) where
    named_so : is_some h.parts.naming ≡ has_naming n
    named_so = ap (λ (t : Parts). is_some t.naming) stands.parts ∙ (some_part was.naming ∙ stands.named)

    asked_so : asked was.number h.disk (parts_with was coord) from m ≡ asked n h.disk h.parts from m
    asked_so = λ i. asked (stands.number i) h.disk (sym stands.parts i) from m

    asked_states : AreAll (is_state_effect (has_naming n)) (serve.outs_of (asked n h.disk h.parts from m))
    asked_states =
        subst (λ b. AreAll (is_state_effect b) (serve.outs_of (asked n h.disk h.parts from m))) named_so (asked_all n h.disk h.parts from m)

    pub request_void : Serves o m the_call None → (outs : List Outgoing) →
        node.Leaves (StandsOn o n new_parts left) h (asked n h.disk h.parts from m) outs outs
    request_void serves outs = void_so o stays n old_parts h the_call refl stands leaves (asked n h.disk h.parts from m) outs
        (subst (λ w. serve.IsVoid o w the_call h.disk) asked_so (serves h.disk stands.services from coord))

    pub request_takes : (answer : Message) → Serves o m the_call (Some answer) → (before after : List Outgoing) →
        effects_of after ≡ effects_of before ++ (says_of lines ++ Send from answer ∷ [])
        → node.Takes (StandsOn o n new_parts left) h (asked n h.disk h.parts from m) before after
    request_takes answer serves before after told =
        takes_so o stays n old_parts h the_call refl stands leaves (asked n h.disk h.parts from m) ((from, answer) ∷ []) before after
        (subst (λ w. serve.Takes o w coord the_call h.disk ((from, answer) ∷ [])) asked_so (serves h.disk stands.services from coord)) asked_states
        (λ es are. told ∙ ap (λ ls. effects_of before ++ (says_of ls ++ Send from answer ∷ [])) (said_all es are))

    pub request_halts : ServesInPart o m the_call → (before after : List Outgoing) → effects_of after ≡ effects_of before ++ says_of lines
        → IsHalted (RestsOn o n left) (node.outs_of (asked n h.disk h.parts from m)) h.disk before after
    request_halts serves before after told =
        subst (λ es. IsHalted (RestsOn o n left) es h.disk before after) (same_outs (asked n h.disk h.parts from m))
        (cut_so o stays n old_parts h the_call refl stands leaves (serve.outs_of (asked n h.disk h.parts from m)) before after
        (subst (λ w. serve.IsCut o (serve.outs_of w) the_call h.disk) asked_so (serves h.disk stands.services from coord)) asked_states
        (λ es are. told ∙ ap (λ ls. effects_of before ++ says_of ls) (said_all es are)))

    -- ---- a message that is no request

    handled_so : handle was.number h.disk (parts_with was coord) from m ≡ handle n h.disk h.parts from m
    handled_so = λ i. handle (stands.number i) h.disk (sym stands.parts i) from m

    pub handled_takes : (sent : ℕ → List (ℕ × Message)) →
        AreAll (is_state_effect (is_some h.parts.naming)) (serve.outs_of (handle n h.disk h.parts from m)) → Handles o m the_call sent →
        (before after : List Outgoing)
        → effects_of after ≡ effects_of before ++ (says_of lines ++ sends (sent from)) →
        node.Takes (StandsOn o n new_parts left) h (handle n h.disk h.parts from m) before after
    handled_takes sent all handles before after told =
        takes_so o stays n old_parts h the_call refl stands leaves (handle n h.disk h.parts from m) (sent from) before after
        (subst (λ w. serve.Takes o w coord the_call h.disk (sent from)) handled_so (handles h.disk stands.services from coord))
        (subst (λ b. AreAll (is_state_effect b) (serve.outs_of (handle n h.disk h.parts from m))) named_so all)
        (λ es are. told ∙ ap (λ ls. effects_of before ++ (says_of ls ++ sends (sent from))) (said_all es are))

    pub handled_halts : AreAll (is_state_effect (is_some h.parts.naming)) (serve.outs_of (handle n h.disk h.parts from m)) →
        HandlesInPart o m the_call → (before after : List Outgoing) → effects_of after ≡ effects_of before ++ says_of lines
        → IsHalted (RestsOn o n left) (node.outs_of (handle n h.disk h.parts from m)) h.disk before after
    handled_halts all handles before after told =
        subst (λ es. IsHalted (RestsOn o n left) es h.disk before after) (same_outs (handle n h.disk h.parts from m))
        (cut_so o stays n old_parts h the_call refl stands leaves (serve.outs_of (handle n h.disk h.parts from m)) before after
        (subst (λ w. serve.IsCut o (serve.outs_of w) the_call h.disk) handled_so (handles h.disk stands.services from coord))
        (subst (λ b. AreAll (is_state_effect b) (serve.outs_of (handle n h.disk h.parts from m))) named_so all)
        (λ es are. told ∙ ap (λ ls. effects_of before ++ says_of ls) (said_all es are)))

pub queries_sent : (us : List Uid) → sends (queries us) ≡ map query_about us
queries_sent [] = refl
queries_sent (u ∷ us) = ap (λ es. query_about u ∷ es) (queries_sent us)
