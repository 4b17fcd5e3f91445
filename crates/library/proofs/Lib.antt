mod CallLaws
mod WordLaws
