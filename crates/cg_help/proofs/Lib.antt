mod MarkLaws
