pub mod GoodDigits
pub mod CardTexts
