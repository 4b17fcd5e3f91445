-- What holds of the list of all limit files beyond `LimitFile` holds of each.
use Rattle.std.proofs.Common.{◌≡◌, Bool, true, false, ◌||◌, List, [], ◌∷◌, refl, ap, ◌∙◌}
use Rattle.std.proofs.lemmas.Bool.{false≢true, and_parts, and_from}
use Rattle.std.specs.List.{list_all, list_any}
use Rattle.cg_cgroup.specs.Files.{all_others, same_other}
use Rattle.cg_cgroup.specs.declared.other_file.OtherFile.{OtherFile}
use Rattle.cg_cgroup.specs.declared.other_file.OtherFile.TheVariants.{CpuMax}
use Rattle.cg_cgroup.proofs.CgroupLaws.{same_other-true}

listed : (file : OtherFile) → list_any (same_other file) all_others ≡ true
listed CpuMax = refl
listed file = refl

each_of : (test : OtherFile → Bool) (file : OtherFile) (files : List OtherFile) → list_all test files ≡ true
    → list_any (same_other file) files ≡ true → test file ≡ true
each_of test file [] all found = absurd (false≢true found)
each_of test file (front ∷ files) all found =
    let parts = and_parts (test front) (list_all test files) all in
    elim (same_other file front) as
    (λ same. same_other file front ≡ same → (same || list_any (same_other file) files) ≡ true → test file ≡ true) [
      | true ↦ λ same _. ap test (same_other-true file front same) ∙ parts.0
      | false ↦ λ _ later. each_of test file files parts.1 later
    ] refl found

pub each_other : (test : OtherFile → Bool) → list_all test all_others ≡ true → (file : OtherFile) → test file ≡ true
each_other test all file = each_of test file all_others all (listed file)

pub others_pass : (test : OtherFile → Bool) → ((file : OtherFile) → test file ≡ true) → (files : List OtherFile)
    → list_all test files ≡ true
others_pass test h [] = refl
others_pass test h (file ∷ files) = and_from _ _ (h file) (others_pass test h files)
