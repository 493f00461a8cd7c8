pub mod DecimalLaws
pub mod NumeralLaws
pub mod DigitSteps
pub mod SignSteps
pub mod DecimalExamples
pub mod Claims
