-- Of which controllers is told where the root has none but those that bring a limit file.
use Rattle.std.proofs.Common.{◌≡◌, Bool, true, false, ◌||◌, cond, List, [], ◌∷◌, filter, refl, sym}
use Rattle.cg_cgroup.specs.Files.{all_controllers, format_2_controllers, is_in_format_2, enables, is_of}
use Rattle.cg_cgroup.specs.declared.files.Vocabulary.TheVariants.{Format2}
use Rattle.cg_cgroup.proofs.ControllerLaws.{enables-known}
use Rattle.cg_model.specs.States.{State}
use Rattle.cg_model.specs.Tries.{is_told, told_controllers}

filter-same : {A : Type 0} (p q : A → Bool) (xs : List A) → ((x : A) → p x ≡ q x) → filter p xs ≡ filter q xs
filter-same p q [] same = refl
filter-same p q (x ∷ xs) same = λ i. cond (same x i) (x ∷ filter-same p q xs same i) (filter-same p q xs same i)

told-once : (known enabled : Bool) → (enabled ≡ true → known ≡ true) → (known || enabled) ≡ known
told-once true enabled h = refl
told-once false true h = sym (h refl)
told-once false false h = refl

pub as_in_format_2 : (st : State) → is_of Format2 st.controllers ≡ true → told_controllers st ≡ format_2_controllers
unfolding told_controllers
as_in_format_2 st narrow =
    filter-same (is_told st) is_in_format_2 all_controllers
    (λ controller. told-once (is_in_format_2 controller) (enables st.controllers controller)
    (enables-known Format2 st.controllers narrow controller))
