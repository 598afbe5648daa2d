-- At naming locks on entries are by the paths of tops, whatever naming does.
use Rattle.arj_law_parts.proofs.Words.{ℕ, List, ◌∷◌, Contains, subst, ObjectState, Path, Row, Uid, tops_of, top_path, Pair, Named}
use Rattle.arj_law_serial.proofs.Terms
use Terms.{Action, AreBegun, IsAsker, AreBegunIn, IsBegun, IsEntryRow, IsTopPath, rows_bind, rows_confirm, rows_hello, rows_note}
use Terms.{rows_recovered, rows_told, path_more, top_path_is, all_each, AreOfEntries, IsTopOf, HoldsNames}
use Rattle.arj_law_lock_view.proofs.facts.{GoodNaming.held_objects, UpperWalks.IsHeld}
use Rattle.arj_law_lock_view.specs.facts.Uppers.{HavePrepared}

-- who asks does so by the path of its top
asker_path : (acts : List Action) → AreBegun acts → (p : Path) → IsAsker acts p → IsTopPath acts (top_path p) (tops_of p)
asker_path acts begun p who = subst (λ (q : Path). IsTopPath acts (top_path q) (tops_of q)) who.2 (top_path_is acts begun who.0 who.1)

prepared_begun : (acts : List Action) (d : Pair) → HavePrepared acts d → AreBegunIn acts d
prepared_begun acts d prepared = all_each (λ (e : Uid × List ObjectState). IsTopOf acts e.0 × AreOfEntries e.1)
    (λ (e : Uid × List ObjectState). IsBegun acts e.0) d.pend (λ e its. let t = its.0 in (t.0, t.1, t.2)) prepared.pend

pub held_names : IsHeld HoldsNames
held_names = record {
  more = λ a acts begun n its. record {
    objects = held_objects.more a acts begun n its.objects;
    entries = all_each (λ (e : ℕ × Named). (r : Row) → Contains (let o = e.1 in o.rows) r →
        IsEntryRow acts r) (λ (e : ℕ × Named). (r : Row) → Contains (let o = e.1 in o.rows) r →
        IsEntryRow (a ∷ acts) r) n.objects (λ e each r c. path_more a acts r.holder r.tops (each r c)) its.entries;
  };
  starts = λ acts begun inc d prepared. record {
    objects = held_objects.starts acts begun inc d prepared;
    entries = rows_recovered acts begun inc d (prepared_begun acts d prepared);
  };
  binds = λ acts begun p who x include avoid d n its. let w = held_objects.binds acts begun p who x include avoid d n its.objects in
      (record { objects = w.0; entries = rows_bind acts begun p (asker_path acts begun p who) x include avoid d n its.entries }, w.1);
  notes = λ acts begun p who x b i g n its. let w = held_objects.notes acts begun p who x b i g n its.objects in
      (record { objects = w.0; entries = rows_note acts begun p x b i g n its.entries }, w.1);
  confirms = λ acts begun p who grants excluded included d n its.
      let w = held_objects.confirms acts begun p who grants excluded included d n its.objects in (
        record {
          objects = w.0;
          entries = rows_confirm acts begun p (asker_path acts begun p who) grants excluded included d n its.entries;
        },
        w.1,
      );
  tells = λ acts begun u e d n its. let w = held_objects.tells acts begun u e d n its.objects in
      (record { objects = w.0; entries = rows_told acts begun u e d n its.entries }, w.1);
  hellos = λ acts begun node inc n its.
      record { objects = held_objects.hellos acts begun node inc n its.objects; entries = rows_hello acts begun node inc n its.entries };
}
