use Rattle.std.proofs.Common.{refl}
use Rattle.arj_law_images.proofs.Cores.{nodes_save}
use Rattle.arj_law_images.proofs.saving.cores_save_their_files.Goals as goal

pub returns : goal.returns
returns c = nodes_save _ _ (record { formed = λ file r f. f; pair = λ file r. refl }) (λ header k file d r. r.formed)
    (λ header k one file h s. (let r = s.rests in r.formed))
