use Rattle.tune_contents.proofs.FilePages.{few_in_use, few_together}
use Rattle.tune_contents.proofs.laws.law_of_file_pages.Goals as goal

pub returns : goal.returns
returns c = record {
  apart = λ file state stands. stands.is.filed.parts.apart;
  few = few_in_use;
  together = few_together;
}
