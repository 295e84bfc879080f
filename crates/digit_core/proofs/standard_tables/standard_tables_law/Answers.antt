-- The law of the standard tables.
use Rattle.digit_core.proofs.Standard.{standard_sum, standard_low_product, standard_high_product}
use Rattle.digit_core.proofs.standard_tables.standard_tables_law.Goals as goal

-- each sum and each product stands in its place
pub returns : goal.returns
returns c = record { sums = standard_sum; low_products = standard_low_product; high_products = standard_high_product }
