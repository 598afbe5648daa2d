-- What is said behind a script that was run.
use Rattle.std.proofs.Common.{◌≡◌, ◌≢◌, inl, inr, ℕ, List, [], ◌∷◌, Some, refl, sym, subst}
use Rattle.std.specs.Prelude.{Result, Ok, Err, IfOk, IfErr}
use Rattle.std.proofs.lemmas.List.{append-nil}
use Rattle.arj_disk.specs.declared.disk.Disk as disk
use Rattle.arj_image.specs.declared.image.NodeFile.{NodeFile}
use Rattle.arj_journal.specs.declared.body.Line.{Line}
use Rattle.arj_journal.specs.declared.header.Header.{Header}
use Rattle.arj_loop.specs.Input.{Arrived}
use Rattle.arj_loop.specs.Running.{Held, held_by}
use Rattle.arj_loop.specs.declared.machine.Machine.{Ghosts}
use Rattle.arj_saving.specs.Comes.{FilesAre, SaysBehind, SaysFiles}
use Rattle.arj_saving.specs.Gathered.{AreFilesOf, HaveBeenRead, node_files}
use Rattle.arj_saving.specs.Saved.{HasImage, HasUp, SaysImage, SaysLast, StopsSoFar, header_of, image_of}
use Rattle.arj_saving.specs.Stops.{ChangedBy, ComesSoFar, HasCrashed, MeetsLimit, Moment, moment, up_nodes}
use Rattle.arj_saving.specs.declared.imaging.Silence.{Silence}
use Rattle.arj_saving.specs.declared.imaging.Silence.TheVariants as silence
use Rattle.arj_saving.specs.declared.saving.Said.{Said}
use Rattle.arj_saving.proofs.Crashing.{wants_all}
use Rattle.arj_world.proofs.Disks.{moved_none}
use Rattle.arj_world.specs.Disks.{HaveNotStopped}

pub read_none : {D : Type 0} (d : disk.Ghosts D) (nodes : ℕ) (rack : List D) → HaveBeenRead d nodes rack rack
read_none d nodes rack = record { files = λ n q. refl; moved = moved_none d nodes rack }

module _ {D M : Type 0} (m : Ghosts M D) (d : disk.Ghosts D) where
  -- the image of a header is that of the same header
  pub says_files : (header h : Header) (then : Moment D M) (after : List D) (journal : List Line) (events : ℕ) (files : List NodeFile) (said : Said) →
      h ≡ header → events ≡ m.steps then.machine → AreFilesOf (node_files d.file then.rack) h.nodes files → HaveBeenRead d h.nodes then.rack after →
      HaveNotStopped d then.rack after → SaysImage (image_of h events then.journal files) journal said.text said.status →
      SaysFiles m d header then (held_by after (Some then.machine) journal) said
  says_files header h then after journal events files said is count files_are read unstopped says = record {
    image = image_of header (m.steps then.machine) then.journal files;
    has = record {
      files = files;
      files_are = subst (λ (g : Header). AreFilesOf (node_files d.file then.rack) g.nodes files) is files_are;
      image_is = refl;
      read = subst (λ (g : Header). HaveBeenRead d g.nodes then.rack after) is read;
      unstopped = unstopped;
    };
    says = subst (λ g. SaysImage (image_of g (m.steps then.machine) then.journal files) journal said.text said.status) is
        (subst (λ n. SaysImage (image_of h n then.journal files) journal said.text said.status) count says);
  }

  -- ---- how far it came

  same_disks : (header : Header) (nodes : List ℕ) (rack : List D) → ChangedBy m header nodes rack rack
  same_disks header [] rack = refl
  same_disks header (n ∷ nodes) rack = inl refl

  pub wants_none : (ups : List ℕ) (before : Moment D M) → ComesSoFar m ups before before.rack
  wants_none ups before = record {
    done = [];
    rest = ups;
    cut = refl;
    now = before;
    ran = λ first header events ran. subst (λ es. m.ran first header es before.rack before.journal before.machine) (sym (append-nil events)) ran;
    since = λ first header events ran. same_disks header ups before.rack;
  }

  wants_met : (ups : List ℕ) (before then : Moment D M) → MeetsLimit m ups before then → ComesSoFar m ups before then.rack
  wants_met ups before then l = record {
    done = l.done;
    rest = l.rest;
    cut = l.cut;
    now = moment then.rack then.machine l.lines;
    ran = l.ran;
    since = λ first header events ran. same_disks header l.rest then.rack;
  }

  module _ (given : Arrived) (first : List D) (before : Moment D M) (ups : List ℕ) (u : HasUp m given first before ups) where
    abbrev pub head : Header
    head = let s = u.script in header_of m given first before s

    -- memory was wanting
    pub behind_memory : (rack after : List D) → ComesSoFar m ups before rack → HaveBeenRead d (let h = head in h.nodes) rack after →
        StopsSoFar m d given first after
    behind_memory rack after comes read = record { before = before; ups = ups; up = u; rack = rack; comes = comes; read = read }

    -- a limit was met
    pub behind_limit : (then : Moment D M) → MeetsLimit m ups before then → (r : Result Said Silence) →
        IfOk r (λ said. (said.status ≡ 6) × SaysLast then.journal said.text) → IfErr r (λ why. why ≡ silence.Memory) →
        SaysBehind m d given first (held_by then.rack (Some then.machine) then.journal) r
    behind_limit then l (Ok said) says memory =
        inr (says.0, record { before = before; ups = ups; up = u; machine = then.machine; machine_is = refl; limit = l; last = says.1 })
    behind_limit then l (Err silence.Memory) says memory =
        behind_memory then.rack then.rack (wants_met ups before then l) (read_none d (let h = head in h.nodes) then.rack)
    behind_limit then l (Err silence.Read) says memory = absurd (cc memory)
    behind_limit then l (Err silence.Disk) says memory = absurd (cc memory)

    -- the nodes were stopped
    pub behind_files : (then : Moment D M) → HasCrashed m ups before then → (header : Header) → header ≡ head → (now : Held D M) →
        now.machine ≡ Some then.machine → (r : Result Said Silence) → (r ≢ Err silence.Memory → up_nodes then.journal header.nodes ≡ []) →
        FilesAre m d header then now r → SaysBehind m d given first now r
    behind_files then a header is now machine (Ok said) down f = inl (record {
      then = then;
      run = record {
        before = before;
        ups = ups;
        up = u;
        crashed = a;
        down = subst (λ (h : Header). up_nodes then.journal h.nodes ≡ []) is (down (λ e. cc e));
      };
      machine = machine;
      image = f.image;
      has = subst (λ h. HasImage m d h then now.rack f.image) is f.has;
      says = f.says;
    })
    behind_files then a header is now machine (Err silence.Read) down f = f
    behind_files then a header is now machine (Err silence.Disk) down f = record {
      then = then;
      run = record {
        before = before;
        ups = ups;
        up = u;
        crashed = a;
        down = subst (λ (h : Header). up_nodes then.journal h.nodes ≡ []) is (down (λ e. cc e));
      };
      machine = machine;
      journal = f.2;
      read = subst (λ (h : Header). HaveBeenRead d h.nodes then.rack now.rack) is f.0;
      stopped = f.1;
    }
    behind_files then a header is now machine (Err silence.Memory) down f =
        behind_memory then.rack now.rack (wants_all m ups before then a) (subst (λ (h : Header). HaveBeenRead d h.nodes then.rack now.rack) is f)
