-- What naming does with its entries on the disk, at a Confirm and at the end of an action, is done or cut as the protocol's
-- node does it.
use Rattle.std.proofs.Common.{◌≡◌, ◌∙◌, true, ℕ, List, [], ◌∷◌, refl, sym, ap, subst, Option, Some, None}
use Rattle.std.specs.Prelude.{is_some, option_map}
use Rattle.arj_disk.specs.FileMap.{FileMap}
use Rattle.arj_disk.specs.Says.{OnlyOfRole, SameOfRole}
use Rattle.arj_disk.specs.declared.slot.Role.TheVariants.{Store, Names}
use Rattle.arj_journal.specs.declared.body.Line.{Line}
use Rattle.arj_msg.specs.declared.message.Confirm.{Confirm}
use Rattle.arj_msg.specs.declared.message.Told.{Told}
use Rattle.arj_naming.specs.Calls.{confirm_by, confirmed_to, told_by, told_last}
use Rattle.arj_naming.specs.Confirming.{did_of}
use Rattle.arj_naming.specs.Files.{GivesEntries}
use Rattle.arj_naming.specs.Kept as naming
use Rattle.arj_naming.specs.Said.{pair_after}
use Rattle.arj_protocol.specs.Ask.{Reply, asked_by, last_end, response}
use Rattle.arj_protocol.specs.Coord.{Coord}
use Rattle.arj_protocol.specs.Effect.{Did, Disk, Pair, Send, Served}
use Rattle.arj_protocol.specs.Naming.{Naming, told}
use Rattle.arj_protocol.specs.Node.{Parts, if_naming, served, sends_answer, with_naming}
use Rattle.arj_protocol.specs.Says.{AreAll, is_naming_effect}
use Rattle.arj_protocol.specs.Words.{End, Head, Message, Uid}
use Rattle.arj_protocol.specs.Words.message
use Rattle.arj_serve.specs.Asked.{IsServed, Serves, ServesInPart, asked}
use Rattle.arj_serve.specs.Did.{Call, IsCut, outs_of}
use Rattle.arj_serve.specs.Ended.{EndsNames, EndsNamesInPart, IsDone, NamesEnd, names_told}
use Rattle.arj_serve.specs.Kept.{Kept, Leaves, LeavesNames, NamingStands, Stands, StandsOn, part_of, parts_with}
use Rattle.arj_serve.proofs.Cuts.{cut_front, names_after, names_cut, names_local}
use Rattle.arj_serve.proofs.Notes.{confirm_nothing}
use Rattle.arj_serve.proofs.Roles.{KeepsOn, Stays, only_names, store_stays}
use Rattle.arj_serve.proofs.Served.{VoidIsNothing, confirm_served, no_entries}
use Rattle.arj_store.specs.declared.store.ObjectStore.{Ghosts}
use Rattle.arj_law_store.specs.store.Files.{IsPairOf}
use Rattle.arj_law_store.proofs.store.Pairs.{pair_same}

-- a cut of what a part did is one of what its node does
served_cut : {O S R : Type 0} (o : Ghosts O) (call : Call O) (d : Disk) (from : ℕ) (h : Head) (put : S → Parts) (say : R →
    Reply) (s : S) (r : Served S R) → VoidIsNothing s r → IsCut o r.outs call d
    → IsCut o (outs_of (served from h put say r)) call d
served_cut {O} {S} {R} o call d from h put say s r nothing cut = by r.reply refl
  where
    by : (reply : Option R) → r.reply ≡ reply → IsCut o (outs_of (served from h put say r)) call d
    by None e = subst (λ es. IsCut o es call d) ((nothing e).1 ∙ (λ i. outs_of (sends_answer from h (put r.part) r.outs (option_map say (sym e i))))) cut
    by (Some x) e =
        subst (λ es. IsCut o es call d) (λ i. outs_of (sends_answer from h (put r.part) r.outs (option_map say (sym e i)))) (cut_front o call d r.outs (Send from (response (asked_by h) (say x)) ∷ []) cut)

-- at an end naming has effects of its own alone
pub told_all : (m : Told) → ((u : Uid) (e : End) (p : Pair) (x : Naming) → AreAll is_naming_effect (told u e p x).outs) →
    (p : Pair) (x : Naming) → AreAll is_naming_effect (told_by m p x).outs
told_all m all p x = by (last_end m.ends)
  where
    by : (e : Option (Uid × End)) → AreAll is_naming_effect (told_last e p x).outs
    by None = refl
    by (Some e) = all e.0 e.1 p x

-- `old` are the services in whose place naming acts, on files of its role alone
module _ {O : Type 0} (o : Ghosts O) (keeps_on : KeepsOn o) (stays : Stays o) (old : Kept O) (n : naming.Kept O) (was : old.naming ≡ Some n) (file left : FileMap) (only : OnlyOfRole Names file left) where
  same_store : SameOfRole Store file left
  same_store = store_stays file left only

  module _ (d : Disk) (stands : StandsOn o old file d) where
    named : NamingStands o (Some n) file d.names
    named = subst (λ x. NamingStands o x file d.names) was stands.naming

    store_pair : IsPairOf (o.pair left Store) d.store
    store_pair = pair_same (o.pair file Store) (o.pair left Store) d.store (stays Store file left same_store stands.formed).1 stands.pair

    -- the store of objects stands as before
    store_on : StandsOn o (record old { naming = None }) left (record d { names = no_entries })
    store_on = record {
      role_is = stands.role_is;
      keeps = keeps_on old.store file left (subst (λ r. SameOfRole r file left) (sym stands.role_is) same_store) stands.keeps;
      formed = (stays Store file left same_store stands.formed).0;
      pair = store_pair;
      objects = stands.objects;
      naming = refl;
    }

    is_named : is_some old.naming ≡ true
    is_named = ap is_some was

  -- what the call leaves of the files
  pub names_leaves : (now : Kept O) → old ≡ now → Stands o now file → o.formed left Names → Leaves o (is_some now.naming) file left
  names_leaves now view stands formed =
      subst (λ b. Leaves o b file left) (sym (sym (ap (λ (k : Kept O). is_some k.naming) view) ∙ ap is_some was)) (record {
        formed = ((stays Store file left same_store stands.1.formed).0, formed);
        others = only_names file left only;
      })

  pub names_left : (now : Kept O) → old ≡ now → o.formed left Names → LeavesNames o (is_some now.naming) file left
  names_left now view formed =
      subst (λ b. LeavesNames o b file left) (sym (sym (ap (λ (k : Kept O). is_some k.naming) view) ∙ ap is_some was)) (record {
        only =
            only;
        formed = formed;
      })

  -- ---- a Confirm

  module _ (m : Confirm) (now : Kept O) (view : old ≡ now) (before after : List Line) (all : (p : Pair) (x : Naming) →
      AreAll is_naming_effect (confirm_by m p x).outs) where
    nothing : (p : Pair) → VoidIsNothing n.part (confirm_by m p n.part)
    nothing p = confirm_nothing m.head.path m.objects m.excluded m.included p n.part

    is_asked : (d : Disk) (from : ℕ) (e : Coord) →
        served from m.head (with_naming (parts_with old e)) Reply.Confirmed (confirm_by m d.names n.part) ≡ asked old.number d (parts_with old e) from (message.Confirm m)
    is_asked d from e =
        λ i. if_naming (λ x. served from m.head (with_naming (parts_with old e)) Reply.Confirmed (confirm_by m d.names x)) (option_map part_of (sym was i))

    pub confirm_done : (k : naming.Kept O) (answer : Option Message) →
        naming.HasDone (did_of (confirm_by m n.pair n.part)) n k before after → naming.StandsOn o k left → GivesEntries (o.pair left Names)
        → answer ≡ option_map (λ x. message.Confirmed (confirmed_to m.head x)) (confirm_by m n.pair n.part).reply
        → Serves o (message.Confirm m) (record {
          old = now;
          new = record old { naming = Some k };
          file = file;
          left = left;
          before =
              before;
          after = after;
        }) answer
    confirm_done k answer did stands_now gives reply d stands from e =
        let call : Call O =
        record { old = old; new = record old { naming = Some k }; file = file; left = left; before = before; after = after } in
        let Goal : Kept O → Type 0 =
        λ s. StandsOn o s file d →
        IsServed o from (asked s.number d (parts_with s e) from (message.Confirm m)) e (record {
          old = s;
          new =
              record old { naming = Some k };
          file = file;
          left = left;
          before = before;
          after = after;
        }) d answer in
        let here : Goal old = λ st.
        subst (λ h. IsServed o from h e call d answer) ((λ i. served from m.head (with_naming (parts_with old e)) Reply.Confirmed (confirm_by m ((named d st).1 i) n.part)) ∙ is_asked d from e)
        (confirm_served o from m.head e call d Reply.Confirmed (confirm_by m n.pair n.part) n k answer was refl (nothing n.pair) (all n.pair n.part) did (named d st).1 stands_now gives reply (store_on d st)) in
        subst Goal view here stands

    pub confirm_cut : (new : Kept O) → naming.IsCut (confirm_by m n.pair n.part).outs n.pair (o.pair left Names) before after →
        GivesEntries (o.pair left Names)
        → ServesInPart o (message.Confirm m) (record { old = now; new = new; file = file; left = left; before = before; after = after })
    confirm_cut new cut gives d stands from e =
        let call : Call O = record { old = old; new = new; file = file; left = left; before = before; after = after } in
        let Goal : Kept O → Type 0 =
        λ s. StandsOn o s file d →
        IsCut o (outs_of (asked s.number d (parts_with s e) from (message.Confirm m))) (record {
          old = s;
          new = new;
          file = file;
          left =
              left;
          before = before;
          after = after;
        }) d in
        let here : Goal old = λ st.
        let there : naming.IsCut (confirm_by m d.names n.part).outs d.names (o.pair left Names) before after =
        subst (λ p. naming.IsCut (confirm_by m p n.part).outs p (o.pair left Names) before after) (named d st).1 cut in
        subst (λ h. IsCut o (outs_of h) call d) (is_asked d from e)
        (served_cut o call d from m.head (with_naming (parts_with old e)) Reply.Confirmed n.part (confirm_by m d.names n.part) (nothing d.names)
        (names_cut o call d (confirm_by m d.names n.part).outs (is_named d st) (all d.names n.part) (store_pair d st) st.objects there gives)) in
        subst Goal view here stands

  -- ---- the end of an action

  module _ (m : Told) (now : Kept O) (view : old ≡ now) (before after : List Line) (all : (p : Pair) (x : Naming) →
      AreAll is_naming_effect (told_by m p x).outs) where
    is_told : (p : Pair) → names_told m p (Some n.part) ≡ names_told m p (option_map part_of old.naming)
    is_told p = λ i. names_told m p (option_map part_of (sym was i))

    pub told_done : (k : naming.Kept O) → naming.HasDone (told_by m n.pair n.part) n k before after → naming.StandsOn o k left →
        GivesEntries (o.pair left Names)
        → EndsNames o m (record {
          old = now;
          new = record old { naming = Some k };
          file = file;
          left = left;
          before = before;
          after =
              after;
        })
    told_done k did stands_now gives d stands =
        let call : Call O =
        record { old = old; new = record old { naming = Some k }; file = file; left = left; before = before; after = after } in
        let Goal : Kept O → Type 0 =
        λ s. StandsOn o s file d →
        NamesEnd o m (record {
          old = s;
          new = record old { naming = Some k };
          file = file;
          left = left;
          before = before;
          after =
              after;
        }) d in
        let here : Goal old = λ st.
        let is = (named d st).1 in
        let did_told : Did Naming = told_by m d.names n.part in
        let there : naming.HasDone did_told n k before after = subst (λ p. naming.HasDone (told_by m p n.part) n k before after) is did in
        let on : StandsOn o (record old { naming = Some k }) left (record d { names = pair_after did_told.outs d.names }) =
        let s = store_on d st in record {
          role_is = s.role_is;
          keeps = s.keeps;
          formed = s.formed;
          pair = s.pair;
          objects =
              s.objects;
          naming = (stands_now, there.pair ∙ ap (pair_after did_told.outs) is, gives);
        } in
        record {
          place = record { number = refl; named = sym (is_named d st) };
          server = refl;
          part = ap Some there.part ∙ (λ i. (is_told d.names i).part);
          done = subst (λ es. IsDone o es call d) (λ i. (is_told d.names i).outs) (record {
            local = names_local did_told.outs (all d.names n.part);
            lines = there.lines;
            stands = subst (StandsOn o (record old { naming = Some k }) left) (sym (names_after did_told.outs d (all d.names n.part))) on;
          });
        } in
        subst Goal view here stands

    pub told_cut : (new : Kept O) → naming.IsCut (told_by m n.pair n.part).outs n.pair (o.pair left Names) before after →
        GivesEntries (o.pair left Names)
        → EndsNamesInPart o m (record { old = now; new = new; file = file; left = left; before = before; after = after })
    told_cut new cut gives d stands =
        let call : Call O = record { old = old; new = new; file = file; left = left; before = before; after = after } in
        let Goal : Kept O → Type 0 =
        λ s. StandsOn o s file d →
        IsCut o (names_told m d.names (option_map part_of s.naming)).outs (record {
          old = s;
          new = new;
          file = file;
          left = left;
          before =
              before;
          after = after;
        }) d in
        let here : Goal old = λ st.
        let there : naming.IsCut (told_by m d.names n.part).outs d.names (o.pair left Names) before after =
        subst (λ p. naming.IsCut (told_by m p n.part).outs p (o.pair left Names) before after) (named d st).1 cut in
        subst (λ es. IsCut o es call d) (λ i. (is_told d.names i).outs)
        (names_cut o call d (told_by m d.names n.part).outs (is_named d st) (all d.names n.part) (store_pair d st) st.objects there gives) in
        subst Goal view here stands
