-- What a run of a bank shows.
use Rattle.std.proofs.Common.{◌≡◌, ◌≢◌, ◌⊎◌, inl, inr, ℕ, zero, suc, ◌-◌, ◌≤◌, List, [], ◌++◌, Option, Some, None, false, refl, sym, ◌∙◌}
use Rattle.std.proofs.Common.{ap, subst, arith}
use Rattle.std.proofs.Math.Logic.{⊎_elim}
use Rattle.std.proofs.lemmas.List.{append-nil}
use Rattle.arj_bank.specs.Bank.{AreOfBank, ComesSoFar, EndsAtLimit, Generates, HaveBeenRead, IsSummary, RanBank, left}
use Rattle.arj_bank.proofs.Ending.{read_none}
use Rattle.arj_command.specs.Facts.{Facts, behind}
use Rattle.arj_command.specs.Outcome.{BankHeadline, FrontShows, RanOfBank, Said, around, holds, world_of}
use Rattle.arj_command.proofs.Causes.{Laws}
use Rattle.arj_command.proofs.Shows.{behind_none, facts_of}
use Rattle.arj_core.specs.declared.node.Core as core
use Rattle.arj_disk.specs.FileMap.{FileMap}
use Rattle.arj_disk.specs.declared.disk.Disk as disk
use Rattle.arj_gen.specs.Bank.{bank_header}
use Rattle.arj_gen.specs.declared.bank.TheConstants.{NODES}
use Rattle.arj_journal.specs.declared.body.Line.{Line}
use Rattle.arj_journal.specs.declared.event.Event.{Event}
use Rattle.arj_loop.specs.Replayed.{Outside, answer}
use Rattle.arj_nodes.specs.AllNodes.{Task, task}
use Rattle.arj_nodes.specs.AsMachine.{all_nodes}
use Rattle.arj_nodes.specs.declared.all_nodes.AllNodes.{AllNodes}
use Rattle.arj_law_nodes.specs.nodes.Banks.{BankFrontsShow, BankLimitsShow, BanksShow}
use Rattle.arj_law_nodes.specs.nodes.Last.{EndsBehind}
use Rattle.arj_law_nodes.specs.nodes.Promised.{ShowsThePromise, marks_of, run_of_task}
use Rattle.arj_law_nodes.specs.nodes.Readings.{Reads, files_at, readings_of}
use Rattle.arj_bank.specs.Balances.{files_in, is_number, no_files, node_files, reader}
use Rattle.arj_promise.specs.Excluded.{DisksAreInTimeFrom}
use Rattle.arj_promise.specs.Disks.{DisksAre}
use Rattle.arj_promise.specs.Runs.{world_by}
use Rattle.arj_promise.specs.Runs.{see}
use Rattle.arj_model.specs.Clean.{CleanFrom}
use Rattle.arj_promise.specs.Resting.{HoldAllStates}
use Rattle.arj_protocol.specs.Tree.{at_place}
use Rattle.std.specs.Prelude.{Bool, true, if◌then◌else◌, length, slice_get}
use Rattle.arj_world.proofs.Disks.{some_one}

whole_bank : (n : ℕ) (events : List Event) → AreOfBank n events → AreOfBank n (events ++ [])
whole_bank n events are = subst (λ es. AreOfBank n es) (sym (append-nil events)) are

node_is : {D : Type 0} (file : D → FileMap) (node : ℕ) (rack : List D) → is_number node ≡ true →
    node_files file rack node ≡ files_in file (slice_get rack (node - 1))
node_is file node rack is = λ i. if is i then files_in file (slice_get rack (node - 1)) else no_files

-- reads leave what each disk says
same_files : {D : Type 0} (d : disk.Ghosts D) (mid after : List D) → HaveBeenRead d mid after → (n : ℕ) →
    files_at d (at_place n after) ≡ files_at d (at_place n mid)
same_files d mid after since zero = refl
same_files {D} d mid after since (suc k) = by (is_number (suc k)) refl
  where
    as_read : (o : Option D) → files_in d.file o ≡ files_at d o
    as_read None = λ i slot. None
    as_read (Some one) = λ i slot. d.file one slot

    by : (b : Bool) → is_number (suc k) ≡ b → files_at d (slice_get after k) ≡ files_at d (slice_get mid k)
    by true is =
        let back : suc k - 1 ≡ k = omega arith in
        let here : (rack : List D) → node_files d.file rack (suc k) ≡ files_at d (slice_get rack k) =
        λ rack. node_is d.file (suc k) rack is ∙ ((λ i. files_in d.file (slice_get rack (back i))) ∙ as_read (slice_get rack k))
        in
        sym (here after) ∙ ((λ i. since.files i (suc k)) ∙ here mid)
    by false is = let past : NODES ≤ k = grind (arith, is) in ap (files_at d) (let m = since.moved in m.others k past)

promise_stays : {D : Type 0} (d : disk.Ghosts D) (read : Reads) (t : Task D) (over : Bool) (journal : List Line) (mid after : List D) →
    HaveBeenRead d mid after → ShowsThePromise d read t over journal mid → ShowsThePromise d read t over journal after
promise_stays d read t over journal mid after since p =
    let same : readings_of d read after ≡ readings_of d read mid = λ i n. read (same_files d mid after since n i) in
    let r = p.run in
    record {
      run = record {
        formed = r.formed;
        moves = r.moves;
        are = r.are;
        form = r.form;
        last = r.last;
        outside = r.outside;
        lines = r.lines;
        disks = subst (λ disks. DisksAre (see [] (world_by t.header (run_of_task t r.formed r.moves))) disks) (sym same) r.disks;
      };
      serial = p.serial;
      book = p.book;
      held = p.held;
      outcome = p.outcome;
      clean = subst (λ disks. CleanFrom (let a = t in a.header) (marks_of t) journal disks) (sym same) p.clean;
      in_time = subst (λ disks. DisksAreInTimeFrom (let a = t in a.header) (marks_of t) (let a = t in length a.events) journal disks) (sym same) p.in_time;
      rest = λ going idle. subst (λ disks. HoldAllStates (let a = t in a.header) (marks_of t) journal disks) (sym same) (p.rest going idle);
    }

module _ {C D : Type 0} (c : core.Ghosts C) (d : disk.Ghosts D) where
  module _ (read : Reads) (laws : Laws c d) where
    -- ---- what the events show

    -- reads leave what the disks say
    bank_facts : (n : ℕ) (first mid after : List D) (journal : List Line) (nodes : Option (AllNodes C)) (all : AllNodes C) →
        BanksShow c d read → nodes ≡ Some all → RanBank (all_nodes c d) n first (left mid journal nodes) → HaveBeenRead d mid after
        → RanOfBank c d read n first (behind all after journal)
    bank_facts n first mid after journal nodes all show is bank since =
        let ran = bank.ran in
        let same : ran.machine ≡ all = some_one ran.machine all (sym ran.machine_is ∙ is) in
        let promise : ShowsThePromise d read (task first bank_header bank.events) (let m = ran.machine in m.over) journal mid =
        subst (λ over. ShowsThePromise d read (task first bank_header bank.events) over journal mid) (sym ran.going) (show n first (left mid journal nodes) bank)
        in
        record {
          events = bank.events;
          rest = [];
          are = whole_bank n bank.events bank.are;
          mid = mid;
          facts = subst (λ a. Facts c d read (task first bank_header bank.events) (behind a mid journal)) same
              (facts_of c d read laws (task first bank_header bank.events) ran.machine mid journal journal (behind_none c d journal) ran.ran promise);
          since = since;
          promise = promise_stays d read (task first bank_header bank.events) all.over journal mid after since
              (subst (λ a. ShowsThePromise d read (task first bank_header bank.events) (let m = a in m.over) journal mid) same promise);
        }

    limit_facts : (n : ℕ) (first rack : List D) (journal : List Line) (nodes : Option (AllNodes C)) (all : AllNodes C) →
        BankLimitsShow c d read → nodes ≡ Some all → EndsAtLimit (all_nodes c d) n first (left rack journal nodes)
        → RanOfBank c d read n first (behind all rack journal)
    limit_facts n first rack journal nodes all show is l =
        let e = l.ended in
        let same : e.machine ≡ all = some_one e.machine all (sym e.machine_is ∙ is) in
        let promise : ShowsThePromise d read (task first bank_header e.done) (let m = e.machine in m.over) journal rack =
        show n first (left rack journal nodes) l in
        record {
          events = e.done;
          rest = e.rest;
          are = subst (λ es. AreOfBank n es) e.cut l.are;
          mid = rack;
          facts = subst (λ a. Facts c d read (task first bank_header e.done) (behind a rack journal)) same
              (facts_of c d read laws (task first bank_header e.done) e.machine rack e.before journal
              (⊎_elim (λ frames. subst (λ ls. EndsBehind e.before ls) (sym frames.same) (behind_none c d e.before)) (λ labels. (_, refl, labels.last)) e.limit)
              e.ran promise);
          since = read_none d rack;
          promise = subst (λ a. ShowsThePromise d read (task first bank_header e.done) (let m = a in m.over) journal rack) same promise;
        }

    front_shows : (n : ℕ) (first after : List D) (comes : ComesSoFar (all_nodes c d) n first after) → BankFrontsShow c d read →
        FrontShows c d read n first after comes
    front_shows n first after (inl same) show = tt
    front_shows n first after (inr (inl formatted)) show = tt
    front_shows n first after (inr (inr (events, are, f))) show =
        facts_of c d read laws (task first bank_header f.done) f.machine f.mid f.journal f.journal (behind_none c d f.journal) f.ran (show n first events after are f)

    -- ---- status by status

    some_status : (n : ℕ) → n ≤ 7 → n ≢ 1 → n ≢ 2 → n ≢ 3 → (n ≡ 0) ⊎ ((n ≡ 4) ⊎ ((n ≡ 5) ⊎ ((n ≡ 6) ⊎ (n ≡ 7))))
    some_status zero few one two three = inl refl
    some_status (suc zero) few one two three = absurd (one refl)
    some_status (suc (suc zero)) few one two three = absurd (two refl)
    some_status (suc (suc (suc zero))) few one two three = absurd (three refl)
    some_status (suc (suc (suc (suc zero)))) few one two three = inr (inl refl)
    some_status (suc (suc (suc (suc (suc zero))))) few one two three = inr (inr (inl refl))
    some_status (suc (suc (suc (suc (suc (suc zero)))))) few one two three = inr (inr (inr (inl refl)))
    some_status (suc (suc (suc (suc (suc (suc (suc zero))))))) few one two three = inr (inr (inr (inr refl)))
    some_status (suc (suc (suc (suc (suc (suc (suc (suc n)))))))) few one two three = absurd (omega (arith, few))

    pub bank_headline : (n : ℕ) (before after : Outside D) (says : Said C) (nodes : Option (AllNodes C)) →
        Generates (all_nodes c d) (reader d (holds read)) n before after (answer says.status says.why says.journal nodes) → says.status ≤ 7
        → BanksShow c d read → BankLimitsShow c d read → BankFrontsShow c d read → says.world ≡ world_of nodes →
        BankHeadline c d read n (around before after) says
    bank_headline n before after says nodes g few whole limits fronts world = record {
      nodes = nodes;
      run = g;
      world_is = world;
      facts = facts;
      front = λ five. let w = g.memory five in front_shows n before.rack w.mid w.comes fronts;
    }
      where
        kinds : (says.status ≡ 0) ⊎ ((says.status ≡ 4) ⊎ ((says.status ≡ 5) ⊎ ((says.status ≡ 6) ⊎ (says.status ≡ 7))))
        kinds = let never = g.never in some_status says.status few never.0 never.1 never.2

        summed : (all : AllNodes C) → nodes ≡ Some all → (bytes : List ℕ) →
            IsSummary (all_nodes c d) (reader d (holds read)) n before.rack (left after.rack says.journal nodes) bytes →
            RanOfBank c d read n before.rack (behind all after.rack says.journal)
        summed all is bytes s = bank_facts n before.rack s.mid after.rack says.journal nodes all whole is s.ran s.read

        facts : says.status ≢ 5 → (all : AllNodes C) → nodes ≡ Some all →
            RanOfBank c d read n before.rack (behind all after.rack says.journal)
        facts five all is =
            ⊎_elim (λ zero. let s = g.summed zero in summed all is s.0 s.1)
            (λ more. ⊎_elim (λ four. let s = g.front four in summed all is s.0 s.2)
            (λ rest. ⊎_elim (λ memory. absurd (five memory))
            (λ last. ⊎_elim (λ limit. limit_facts n before.rack after.rack says.journal nodes all limits is (g.limit limit))
            (λ stop. ⊎_elim
            (λ format. let never : Some all ≡ None = sym is ∙ format.machine in absurd (cc never))
            (λ sum. bank_facts n before.rack sum.mid after.rack says.journal nodes all whole is sum.ran sum.read)
            (g.stopped stop))
            last) rest) more) kinds
