-- What is told of the limit files beyond `LimitFile` of one cgroup.
use Rattle.std.specs.Prelude.{ℕ, get_or, slice_set, map, cond, Option, Some, None}
use Rattle.std.proofs.Common.{refl, ◌∙◌}
use Rattle.std.proofs.lemmas.List.{length-set}
use Rattle.cg_cgroup.specs.OtherKinds.{all_others, other_kind, brought_by}
use Rattle.cg_cgroup.specs.Files.{stands_by}
use Rattle.cg_cgroup.specs.Cgroups.{with_mode_of}
use Rattle.cg_cgroup.specs.declared.controllers.ControllerSet.{ControllerSet}
use Rattle.cg_cgroup.specs.declared.user.Entry.{Entry}
use Rattle.cg_cgroup.specs.declared.other_file.OtherFile.{OtherFile}
use Rattle.cg_cgroup.specs.declared.told.FileText.{FileText}
use Rattle.cg_cgroup.specs.declared.told.ToldFile.{ToldFile}
use Rattle.cg_cgroup.specs.declared.told.ToldFiles.{ToldFiles}

abbrev pub told_in : ToldFiles → OtherFile → Option ToldFile
told_in files file = get_or files.entries (other_kind file).number None

abbrev pub told_by : (OtherFile → Option ToldFile) → ToldFiles
told_by held = record { entries = map held all_others; whole = refl }

abbrev pub nothing_told : ToldFiles
nothing_told = told_by (λ file. None)

abbrev pub telling : OtherFile → Option ToldFile → ToldFiles → ToldFiles
telling file told files = record {
  entries = slice_set files.entries (other_kind file).number told;
  whole = length-set files.entries (other_kind file).number told ∙ files.whole;
}

-- Enabling and Disabling: what is left of it below a cgroup that enables these. Own: what is told goes with its file.
abbrev pub told_under : ControllerSet → ToldFiles → ToldFiles
told_under enabled files = told_by (λ file. cond (stands_by enabled (brought_by file)) (told_in files file) None)

-- a file of which nothing was told
abbrev pub file_untold : Entry → ToldFile
file_untold entry = record { entry = entry; value = None }

abbrev pub with_mode_told : ℕ → ToldFile → ToldFile
with_mode_told mode told = record told { entry = with_mode_of mode told.entry }

abbrev pub with_value_told : FileText → ToldFile → ToldFile
with_value_told value told = record told { value = Some value }
